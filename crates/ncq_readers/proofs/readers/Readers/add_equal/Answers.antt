use Rattle.ncq_readers.proofs.ReaderLaws.{equal_groups, free_constant, equals_kept, constant_gains, equals_same}
use Rattle.ncq_readers.specs.contracts.readers.Readers.{the_view}
use Rattle.ncq_readers.proofs.readers.Readers.add_equal.Goals as goal

pub add_constant-requires-clause-tables : goal.add_constant-requires-clause-tables
add_constant-requires-clause-tables c = equal_groups (the_view c.self.inside) c.self.invariant

pub add_constant-requires-clause-free : goal.add_constant-requires-clause-free
add_constant-requires-clause-free c = free_constant (the_view c.self.inside) c.args.self.now c.self.view_is c.args.slot c.args.constant c.requires

pub invariant_of-self : goal.invariant_of-self
invariant_of-self c = equals_kept (the_view c.self.inside) c.args.self.now c.self.view_is c.self.invariant c.add_constant.new.groups.entries c.add_constant.ensures.tables

pub returns-clause-ok : goal.returns-clause-ok
returns-clause-ok c =
    constant_gains (the_view c.self.inside) c.args.self.now c.self.view_is c.self.invariant c.add_constant.new.groups.entries c.add_constant.result c.args.slot c.args.constant (record { 0 = c.args.number }) c.requires
    c.add_constant.ensures.ok

pub returns-clause-err : goal.returns-clause-err
returns-clause-err c =
    equals_same (the_view c.self.inside) c.args.self.now c.self.view_is c.self.invariant c.add_constant.new.groups.entries c.add_constant.result c.add_constant.ensures.err
