use Rattle.ncq.proofs.tests.held.a_quote_that_changes_two_hundred_times_leaves_few_rows.Given as goal

abbrev pub ghosts-counted_turns : goal.ghosts-counted_turns
ghosts-counted_turns g a = record { name = a.blank.name; parts = a.blank.parts }
