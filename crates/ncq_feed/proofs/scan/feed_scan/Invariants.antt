use Rattle.ncq_feed.proofs.scan.feed_scan.Given as goal

abbrev pub ghost-append_all : goal.ghost-append_all
ghost-append_all g a = g.run
