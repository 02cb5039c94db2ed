use Rattle.ncq_tests_rows.proofs.tests.views.a_view_answers_for_its_rows_alone.Given as goal

abbrev pub ghosts-right_answers : goal.ghosts-right_answers
ghosts-right_answers g a = record { name = a.blank.name; parts = a.blank.parts }
