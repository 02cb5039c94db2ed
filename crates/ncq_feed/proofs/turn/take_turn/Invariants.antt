use Rattle.ncq_feed.proofs.turn.take_turn.Given as goal

abbrev pub ghost-feed_join : goal.ghost-feed_join
ghost-feed_join g a = g.run

abbrev pub ghost-pass_down : goal.ghost-pass_down
ghost-pass_down g a = g.run

abbrev pub ghost-tell_joins : goal.ghost-tell_joins
ghost-tell_joins g a = g.run

abbrev pub ghost-got_rows : goal.ghost-got_rows
ghost-got_rows g a = g.run
