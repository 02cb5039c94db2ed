use Rattle.std.proofs.Common.{None}
use Rattle.ncq_distinct.proofs.ShownTables.{awaits, counts_gone, set_waits}
use Rattle.ncq_distinct.proofs.table.DistinctTable.remove.Goals as goal

pub returns-clause-counts : goal.returns-clause-counts
returns-clause-counts c =
    rw (← c.self.view_is)
    (λ any. counts_gone c.self.inside.counts.entries c.swap_remove-counts.new.self.entries
    c.self.inside.waiting.entries c.swap_remove-changes.new.self.entries c.args.install any
    (c.swap_remove-counts.ensures.updates.0 any))

pub returns-clause-waiting : goal.returns-clause-waiting
returns-clause-waiting c =
    let old = c.self.inside.counts.entries in
    let new = c.swap_remove-counts.new.self.entries in
    let before = c.self.inside.waiting.entries in
    let now = c.swap_remove-changes.new.self.entries in
    let is = c.swap_remove-changes.ensures.updates.0 in
    let can = set_waits old new before now c.args.install None is c.swap_remove-counts.ensures.updates.2 tt c.self.invariant in
    rw (← c.self.view_is) (awaits old new before now c.args.install None is c.self.invariant can)
