use Rattle.ncq_tests_rows.proofs.tests.making.rows_of.Given as goal

abbrev pub ghosts-rows_in : goal.ghosts-rows_in
ghosts-rows_in a = record { name = a.blank.name; parts = a.blank.parts }
