use Rattle.ncq_tests_rows.proofs.tests.intervals.a_file_finds_the_rows_of_an_interval.Given as goal

abbrev pub ghosts-is_all_found : goal.ghosts-is_all_found
ghosts-is_all_found g a = record { name = a.blank.name; parts = a.blank.parts }
