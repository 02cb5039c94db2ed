use Rattle.ncq_base.proofs.Keyed.{map_put}
use Rattle.ncq_source.proofs.elements.Elements.put.Goals as goal

pub returns-clause-pairs : goal.returns-clause-pairs
returns-clause-pairs c =
    let e = rw c.unwrap-old.ensures at c.insert.ensures.updates in
    rw (← c.self.view_is) (map_put c.self.inside.elements.entries c.insert.new.self.entries c.args.key c.args.element e.0)
