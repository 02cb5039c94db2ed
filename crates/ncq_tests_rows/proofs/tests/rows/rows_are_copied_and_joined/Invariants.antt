use Rattle.ncq_tests_rows.proofs.tests.rows.rows_are_copied_and_joined.Given as goal

abbrev pub ghosts-joined : goal.ghosts-joined
ghosts-joined g a = record { name = a.blank.name; parts = a.blank.parts }
