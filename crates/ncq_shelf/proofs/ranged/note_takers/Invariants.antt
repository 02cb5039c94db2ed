use Rattle.std.proofs.Common.{ℕ, take}
use Rattle.std.specs.List.{AllByRecursion}
use Rattle.ncq_shelf.specs.Keyed.{Grows, IsHeld, IsKey, nowhere}
use Rattle.ncq_shelf.proofs.ranged.note_takers.Given as goal

-- the row is noted of the files so far
abbrev pub invariant-loop-file : goal.invariant-loop-file
invariant-loop-file l = record {
  grows : Grows nowhere l.initial.keys l.keys;
  done : AllByRecursion (λ file. (slot : ℕ) → IsKey l.keys file.0 slot → IsHeld l.keys.holders file.0 slot l.row) (take l.file-index l.takers);
}
