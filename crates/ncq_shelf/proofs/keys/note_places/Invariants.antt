use Rattle.std.proofs.Common.{◌≡◌, Some, take}
use Rattle.std.specs.Prelude.{slice_get}
use Rattle.std.specs.List.{AllByRecursion}
use Rattle.ncq_midfile.specs.Shown.{rows_below}
use Rattle.ncq_midfile.specs.declared.signed.SignedRow.{SignedRow}
use Rattle.ncq_shelf.specs.Keyed.{IsHeld, HoldsMore}
use Rattle.ncq_shelf.proofs.keys.note_places.Given as goal

-- the rows at the places so far are noted
abbrev pub invariant-loop-place : goal.invariant-loop-place
invariant-loop-place l = record {
  more : HoldsMore l.initial.holders l.holders;
  done : AllByRecursion (λ place. (r : SignedRow) → slice_get (rows_below l.content) place ≡ Some r → IsHeld l.holders l.number l.slot r.row) (take l.place-index l.places);
}
