use Rattle.ncq_readers.proofs.ReaderLaws.{range_groups, ranges_kept, interval_loses}
use Rattle.ncq_readers.specs.contracts.readers.Readers.{the_view}
use Rattle.ncq_readers.proofs.readers.Readers.remove_range.Goals as goal

pub remove_interval-requires : goal.remove_interval-requires
remove_interval-requires c = record { tables = range_groups (the_view c.self.inside) c.self.invariant }

pub invariant_of-self : goal.invariant_of-self
invariant_of-self c = ranges_kept (the_view c.self.inside) c.args.self.now c.self.view_is c.self.invariant c.remove_interval.new.groups.entries c.remove_interval.ensures.tables

pub returns : goal.returns
returns c =
    interval_loses (the_view c.self.inside) c.args.self.now c.self.view_is c.self.invariant c.remove_interval.new.groups.entries c.args.slot c.args.interval.now c.args.number c.requires c.remove_interval.ensures.sets
