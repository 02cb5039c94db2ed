use Rattle.ncq.proofs.tests.told.those_that_ask_the_same_are_told_what_is_kept.Given as goal

abbrev pub ghosts-counted_turns : goal.ghosts-counted_turns
ghosts-counted_turns g a = record { name = a.blank.name; parts = a.blank.parts }
