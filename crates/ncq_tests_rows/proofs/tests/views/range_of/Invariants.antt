use Rattle.std.proofs.Common.{◌≡◌, length}
use Rattle.std.specs.List.{AllByRecursion}
use Rattle.ncq_midfile.specs.Content.{IsSound}
use Rattle.ncq_tests_rows.proofs.tests.views.range_of.Given as goal

abbrev pub invariant-loop-digit : goal.invariant-loop-digit
invariant-loop-digit g l = record {
  sound : IsSound l.file.rows;
  one : AllByRecursion (λ r. length r.row ≡ 1) l.file.rows;
}
