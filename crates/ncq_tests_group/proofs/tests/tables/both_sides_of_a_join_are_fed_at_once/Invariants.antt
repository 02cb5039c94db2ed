use Rattle.ncq_tests_group.proofs.tests.tables.both_sides_of_a_join_are_fed_at_once.Given as goal

abbrev pub ghosts-take_turns : goal.ghosts-take_turns
ghosts-take_turns g a = record { name = a.blank.name; parts = a.blank.parts }
