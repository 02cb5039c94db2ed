use Rattle.std.proofs.Common.{◌≡◌, length}
use Rattle.std.specs.List.{AllByRecursion}
use Rattle.ncq_tests_rows.proofs.tests.parcels.append_rows.Given as goal

abbrev pub invariant-loop-text : goal.invariant-loop-text
invariant-loop-text g l = AllByRecursion (λ r. length r.row ≡ 1) l.file.rows
