use Rattle.ncq.proofs.tests.held.a_quote_that_changes_between_two_timers_leaves_few_rows.Given as goal

abbrev pub ghosts-counted_periods : goal.ghosts-counted_periods
ghosts-counted_periods g a = record { name = a.blank.name; parts = a.blank.parts }
