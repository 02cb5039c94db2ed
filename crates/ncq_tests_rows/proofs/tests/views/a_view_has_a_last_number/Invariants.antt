use Rattle.ncq_tests_rows.proofs.tests.views.a_view_has_a_last_number.Given as goal

abbrev pub ghosts-right_lasts : goal.ghosts-right_lasts
ghosts-right_lasts g a = record { name = a.blank.name; parts = a.blank.parts }
