use Rattle.ncq_feed.proofs.GrowthLaws.{there_up, push_above, push_last, push_under, push_given}
use Rattle.ncq_feed.proofs.RangeLaws.{own_up}
use Rattle.ncq_feed.proofs.append.append.Goals as goal

pub append-requires-clause-there : goal.append-requires-clause-there
append-requires-clause-there g c = there_up g.run c.args.shelf.now c.requires.0 c.args.at c.requires.1.0

pub append-requires-clause-own : goal.append-requires-clause-own
append-requires-clause-own g c = own_up g.run c.args.shelf.now c.requires.0 c.args.at c.requires.1.1.0

pub append-requires-clause-above : goal.append-requires-clause-above
append-requires-clause-above g c = push_above g.run c.args.shelf.now c.requires.0 c.args.at c.requires.1.0 c.args.row c.requires.1.1.1

pub append-requires-clause-last : goal.append-requires-clause-last
append-requires-clause-last g c = push_last g.run c.args.shelf.now c.requires.0 c.args.at c.requires.1.0 c.args.row c.requires.1.1.1

pub returns-clause-under : goal.returns-clause-under
returns-clause-under g c = push_under g.run c.args.shelf.now c.requires.0 c.args.at c.requires.1.0 c.args.row c.requires.1.1.1 c.append.new.self c.in_ok-append.ensures.ok

pub returns-clause-given : goal.returns-clause-given
returns-clause-given g c = push_given g.run c.args.shelf.now c.requires.0 c.args.at c.requires.1.0 c.args.row c.requires.1.1.1 c.append.new.self c.in_ok-append.ensures.ok
