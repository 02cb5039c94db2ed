use Rattle.ncq_tests_rows.proofs.tests.views.a_new_interval_brings_what_no_other_has.Given as goal

abbrev pub ghosts-right_missing : goal.ghosts-right_missing
ghosts-right_missing g a = record { name = a.blank.name; parts = a.blank.parts }
