use Rattle.ncq_tests_rows.proofs.tests.files.a_history_leaves_the_rows_that_did_not_go.Given as goal

abbrev pub ghosts-are_left : goal.ghosts-are_left
ghosts-are_left g a = record { name = a.blank.name; parts = a.blank.parts }
