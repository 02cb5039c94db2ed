use Rattle.ncq_tests_rows.proofs.tests.parcels.a_row_goes_to_the_files_whose_constants_it_meets.Given as goal

abbrev pub ghosts-right_splits : goal.ghosts-right_splits
ghosts-right_splits g a = record { name = a.blank.name; parts = a.blank.parts }
