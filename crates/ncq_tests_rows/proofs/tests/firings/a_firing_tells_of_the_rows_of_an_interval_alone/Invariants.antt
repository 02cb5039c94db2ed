use Rattle.ncq_tests_rows.proofs.tests.firings.a_firing_tells_of_the_rows_of_an_interval_alone.Given as goal

abbrev pub ghosts-right_parts : goal.ghosts-right_parts
ghosts-right_parts g a = record { name = a.blank.name; parts = a.blank.parts }
