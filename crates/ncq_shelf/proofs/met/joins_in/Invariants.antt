use Rattle.std.proofs.Common.{◌≡◌, Some, take}
use Rattle.std.specs.Prelude.{slice_get}
use Rattle.std.specs.List.{AllByRecursion}
use Rattle.ncq_midfile.specs.Shown.{rows_below}
use Rattle.ncq_midfile.specs.declared.signed.SignedRow.{SignedRow}
use Rattle.ncq_shelf.specs.Met.{Gathers, IsRowMet}
use Rattle.ncq_shelf.proofs.met.joins_in.Given as goal

-- the rows at the places so far are met
abbrev pub invariant-loop-place : goal.invariant-loop-place
invariant-loop-place l = record {
  gathers : Gathers l.files.entries l.input l.initial.met.keys l.met.keys;
  done : AllByRecursion (λ place. (r : SignedRow) → slice_get (rows_below l.view) place ≡ Some r → IsRowMet l.files.entries l.keys l.input l.met.keys r.row) (take l.place-index l.places);
}
