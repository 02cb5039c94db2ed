use Rattle.ncq_tests_group.proofs.tests.tables.take_all.Goals as goal

pub take_each-requires : goal.take_each-requires
take_each-requires g c = c.in_ok-table.ensures
