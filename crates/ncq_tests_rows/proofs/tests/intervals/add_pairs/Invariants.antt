use Rattle.std.proofs.Common.{◌≡◌, length}
use Rattle.std.specs.List.{AllByRecursion}
use Rattle.ncq_midfile.specs.Content.{IsSound}
use Rattle.ncq_tests_rows.proofs.tests.intervals.add_pairs.Given as goal

abbrev pub invariant-loop-first : goal.invariant-loop-first
invariant-loop-first g l = record {
  sound : IsSound l.file.rows;
  two : AllByRecursion (λ r. length r.row ≡ 2) l.file.rows;
}
