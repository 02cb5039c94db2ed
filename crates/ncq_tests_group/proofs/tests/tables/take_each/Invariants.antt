use Rattle.ncq_tests_group.specs.Tables.{StandsFor}
use Rattle.ncq_tests_group.proofs.tests.tables.take_each.Given as goal

abbrev pub invariant-loop-turn : goal.invariant-loop-turn
invariant-loop-turn g l = StandsFor l.store l.table
