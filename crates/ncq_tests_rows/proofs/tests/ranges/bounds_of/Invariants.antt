use Rattle.std.proofs.Common.{◌≡◌, length}
use Rattle.ncq_tests_rows.proofs.tests.ranges.bounds_of.Given as goal

abbrev pub invariant-loop-signed : goal.invariant-loop-signed
invariant-loop-signed l = length l.each.items ≡ l.signed-index
