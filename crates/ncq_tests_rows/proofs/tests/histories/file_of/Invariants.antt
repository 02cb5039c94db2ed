use Rattle.std.proofs.Common.{◌≡◌, length}
use Rattle.std.specs.List.{AllByRecursion}
use Rattle.ncq_midfile.specs.Content.{IsSound}
use Rattle.ncq_tests_rows.proofs.tests.histories.file_of.Given as goal

abbrev pub invariant-loop-at : goal.invariant-loop-at
invariant-loop-at g l = record {
  sound : IsSound l.file.rows;
  one : AllByRecursion (λ r. length r.row ≡ 1) l.file.rows;
}
