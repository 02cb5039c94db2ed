use Rattle.std.proofs.Common.{take}
use Rattle.std.specs.List.{AllByRecursion}
use Rattle.ncq_shelf.specs.Keyed.{IsHeld, HoldsMore}
use Rattle.ncq_shelf.proofs.keys.note_at.Given as goal

-- the row is noted at the slots so far
abbrev pub invariant-loop-slot : goal.invariant-loop-slot
invariant-loop-slot l = record {
  more : HoldsMore l.initial.holders l.holders;
  done : AllByRecursion (λ slot. IsHeld l.holders l.number slot l.row) (take l.slot-index l.slots);
}
