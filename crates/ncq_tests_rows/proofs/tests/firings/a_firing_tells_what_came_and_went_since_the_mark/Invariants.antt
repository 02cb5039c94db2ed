use Rattle.ncq_tests_rows.proofs.tests.firings.a_firing_tells_what_came_and_went_since_the_mark.Given as goal

abbrev pub ghosts-right_firings : goal.ghosts-right_firings
ghosts-right_firings g a = record { name = a.blank.name; parts = a.blank.parts }
