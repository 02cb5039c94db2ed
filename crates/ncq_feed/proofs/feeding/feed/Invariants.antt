use Rattle.ncq_feed.proofs.feeding.feed.Given as goal

abbrev pub ghost-pass_on : goal.ghost-pass_on
ghost-pass_on g a = record { store = a.store.now; change = a.change.now; files = a.shelf.now }
