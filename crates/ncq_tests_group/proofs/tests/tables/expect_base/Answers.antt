use Rattle.ncq_tests_group.proofs.tests.tables.expect_base.Goals as goal

pub file-requires : goal.file-requires
file-requires g c = c.expect_there.ensures
