use Rattle.std.proofs.Common.{◌∙◌}
use Rattle.ncq_base.proofs.Keyed.{map_put}
use Rattle.ncq_base.specs.Keys.{map_of}
use Rattle.ncq_bag.proofs.CountLaws.{with_some}
use Rattle.ncq_bag.proofs.counts.Counts.put.Goals as goal

pub returns-clause-counts : goal.returns-clause-counts
returns-clause-counts c =
    let e = rw c.unwrap-old.ensures at c.insert.ensures.updates in
    rw (← c.self.view_is)
    (map_put c.self.inside.counts.entries c.insert.new.self.entries c.args.key c.args.count e.0
    ∙ with_some (map_of c.self.inside.counts.entries) c.args.key c.args.count c.requires.some)
