use Rattle.ncq.proofs.tests.held.quotes_that_change_less_often_than_makes_files_worn_leave_few_rows.Given as goal

abbrev pub ghosts-counted_rounds : goal.ghosts-counted_rounds
ghosts-counted_rounds g a = record { name = a.blank.name; parts = a.blank.parts }
