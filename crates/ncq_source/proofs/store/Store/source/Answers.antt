use Rattle.ncq_source.specs.Views.{source_of}
use Rattle.ncq_source.proofs.Places.{seen_is}
use Rattle.ncq_source.proofs.store.Store.source.Goals as goal

pub returns : goal.returns
returns c = rw (← c.self.view_is) (seen_is source_of c.self.inside.sources.items c.args.id.0 c.index.result.now (rw (← c.self.view_is) at c.requires) c.index.ensures)
