use Rattle.std.proofs.Common.{◌∙◌, sym}
use Rattle.ncq_base.proofs.Keyed.{get_map_of}
use Rattle.ncq_source.proofs.elements.Elements.get.Goals as goal

pub returns : goal.returns
returns c = rw (← c.self.view_is) (c.get.ensures.value ∙ sym (get_map_of c.self.inside.elements.entries c.args.key.now))
