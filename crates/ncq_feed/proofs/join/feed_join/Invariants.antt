use Rattle.ncq_feed.proofs.join.feed_join.Given as goal

abbrev pub ghost-index_sides : goal.ghost-index_sides
ghost-index_sides g a = g.run

abbrev pub ghost-joined : goal.ghost-joined
ghost-joined g a = g.run

abbrev pub ghost-append_all : goal.ghost-append_all
ghost-append_all g a = g.run
