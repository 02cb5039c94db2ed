use Rattle.ncq_shelf.proofs.install.put_file.Goals as goal

pub returns-clause-files : goal.returns-clause-files
returns-clause-files c = let b = rw c.unwrap-none.ensures at c.insert.ensures.updates in b.0

pub returns-clause-numbers : goal.returns-clause-numbers
returns-clause-numbers c = let e = rw c.unwrap-old.ensures at c.insert-2.ensures.updates in e.0
