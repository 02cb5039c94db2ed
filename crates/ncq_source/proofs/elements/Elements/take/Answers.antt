use Rattle.ncq_base.proofs.Keyed.{map_gone}
use Rattle.ncq_source.proofs.elements.Elements.take.Goals as goal

pub returns-clause-pairs : goal.returns-clause-pairs
returns-clause-pairs c = rw (← c.self.view_is) (map_gone c.self.inside.elements.entries c.swap_remove-old.new.self.entries c.args.key.now c.swap_remove-old.ensures.updates.0)
