use Rattle.ncq_readers.proofs.ReaderLaws.{number_gains}
use Rattle.ncq_readers.specs.contracts.readers.Readers.{the_view}
use Rattle.ncq_readers.proofs.readers.Readers.add_join.Goals as goal

pub returns-clause-ok : goal.returns-clause-ok
returns-clause-ok c = number_gains (the_view c.self.inside) c.args.self.now c.self.view_is c.self.invariant c.insert.new.self.keys c.args.number c.in_ok-insert.ensures.updates.0
