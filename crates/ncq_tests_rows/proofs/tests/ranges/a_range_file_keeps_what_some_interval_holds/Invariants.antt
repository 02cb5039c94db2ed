use Rattle.ncq_tests_rows.proofs.tests.ranges.a_range_file_keeps_what_some_interval_holds.Given as goal

abbrev pub ghosts-right_turns : goal.ghosts-right_turns
ghosts-right_turns g a = record { name = a.blank.name; parts = a.blank.parts }
