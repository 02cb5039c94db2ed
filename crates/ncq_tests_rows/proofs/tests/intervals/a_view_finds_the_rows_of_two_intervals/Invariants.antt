use Rattle.ncq_tests_rows.proofs.tests.intervals.a_view_finds_the_rows_of_two_intervals.Given as goal

abbrev pub ghosts-right_pairs : goal.ghosts-right_pairs
ghosts-right_pairs g a = record { name = a.blank.name; parts = a.blank.parts }
