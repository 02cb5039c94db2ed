use Rattle.ncq_readers.proofs.ReaderLaws.{range_groups, free_interval, ranges_kept, interval_gains, ranges_same}
use Rattle.ncq_readers.specs.contracts.readers.Readers.{the_view}
use Rattle.ncq_readers.proofs.readers.Readers.add_range.Goals as goal

pub add_interval-requires-clause-tables : goal.add_interval-requires-clause-tables
add_interval-requires-clause-tables c = range_groups (the_view c.self.inside) c.self.invariant

pub add_interval-requires-clause-free : goal.add_interval-requires-clause-free
add_interval-requires-clause-free c = free_interval (the_view c.self.inside) c.args.self.now c.self.view_is c.args.slot c.args.interval c.requires

pub invariant_of-self : goal.invariant_of-self
invariant_of-self c = ranges_kept (the_view c.self.inside) c.args.self.now c.self.view_is c.self.invariant c.add_interval.new.groups.entries c.add_interval.ensures.tables

pub returns-clause-ok : goal.returns-clause-ok
returns-clause-ok c =
    interval_gains (the_view c.self.inside) c.args.self.now c.self.view_is c.self.invariant c.add_interval.new.groups.entries c.add_interval.result c.args.slot c.args.interval (record { 0 = c.args.number }) c.requires
    c.add_interval.ensures.ok

pub returns-clause-err : goal.returns-clause-err
returns-clause-err c =
    ranges_same (the_view c.self.inside) c.args.self.now c.self.view_is c.self.invariant c.add_interval.new.groups.entries c.add_interval.result c.add_interval.ensures.err
