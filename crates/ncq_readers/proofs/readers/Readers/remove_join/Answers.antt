use Rattle.ncq_readers.proofs.ReaderLaws.{joins_kept, number_loses}
use Rattle.ncq_readers.specs.contracts.readers.Readers.{the_view}
use Rattle.ncq_readers.proofs.readers.Readers.remove_join.Goals as goal

pub invariant_of-self : goal.invariant_of-self
invariant_of-self c = joins_kept (the_view c.self.inside) c.args.self.now c.self.view_is c.self.invariant c.swap_remove.new.self.keys

pub returns : goal.returns
returns c = number_loses (the_view c.self.inside) c.args.self.now c.self.view_is c.self.invariant c.swap_remove.new.self.keys c.args.number c.swap_remove.ensures.updates.0
