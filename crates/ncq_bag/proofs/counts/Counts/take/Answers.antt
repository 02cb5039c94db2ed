use Rattle.ncq_base.proofs.Keyed.{map_gone}
use Rattle.ncq_bag.proofs.counts.Counts.take.Goals as goal

pub returns-clause-counts : goal.returns-clause-counts
returns-clause-counts c =
    rw (← c.self.view_is)
    (map_gone c.self.inside.counts.entries c.swap_remove-old.new.self.entries c.args.key.now
    c.swap_remove-old.ensures.updates.0)
