use Rattle.std.proofs.Common.{◌^◌}
use Rattle.ncq_feed.proofs.PendingLaws.{left_falling, taken_least}
use Rattle.ncq_feed.proofs.falling.Falling.take_first.Goals as goal

pub invariant_of-self : goal.invariant_of-self
invariant_of-self c = left_falling (2 ^ 64) c.pop.result c.self.inside.falling.items c.pop.new.self.items c.pop.ensures.items c.self.invariant

pub returns-clause-above : goal.returns-clause-above
returns-clause-above c = taken_least (2 ^ 64) c.pop.result c.self.inside.falling.items c.pop.new.self.items c.pop.ensures.items c.self.invariant
