use Rattle.ncq_readers.proofs.ReaderLaws.{equal_groups, equals_kept, constant_loses}
use Rattle.ncq_readers.specs.contracts.readers.Readers.{the_view}
use Rattle.ncq_readers.proofs.readers.Readers.remove_equal.Goals as goal

pub remove_constant-requires : goal.remove_constant-requires
remove_constant-requires c = record { tables = equal_groups (the_view c.self.inside) c.self.invariant }

pub invariant_of-self : goal.invariant_of-self
invariant_of-self c = equals_kept (the_view c.self.inside) c.args.self.now c.self.view_is c.self.invariant c.remove_constant.new.groups.entries c.remove_constant.ensures.tables

pub returns : goal.returns
returns c =
    constant_loses (the_view c.self.inside) c.args.self.now c.self.view_is c.self.invariant c.remove_constant.new.groups.entries c.args.slot c.args.constant.now c.args.number c.requires c.remove_constant.ensures.sets
