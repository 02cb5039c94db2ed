use Rattle.ncq_feed.proofs.turn.pass_down.Given as goal

abbrev pub ghost-deliver : goal.ghost-deliver
ghost-deliver g a = g.run

abbrev pub ghost-deliver_held : goal.ghost-deliver_held
ghost-deliver_held g a = g.run
