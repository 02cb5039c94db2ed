use Rattle.ncq_tests_group.proofs.tests.tables.a_table_is_fed_and_compacted.Given as goal

abbrev pub ghosts-take_turns : goal.ghosts-take_turns
ghosts-take_turns g a = record { name = a.blank.name; parts = a.blank.parts }
