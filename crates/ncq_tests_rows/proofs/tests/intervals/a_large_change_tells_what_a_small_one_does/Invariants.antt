use Rattle.ncq_tests_rows.proofs.tests.intervals.a_large_change_tells_what_a_small_one_does.Given as goal

abbrev pub ghosts-right_since : goal.ghosts-right_since
ghosts-right_since g a = record { name = a.blank.name; parts = a.blank.parts }
