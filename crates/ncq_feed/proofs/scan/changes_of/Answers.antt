use Rattle.ncq_change.specs.Entries.{entry_delta}
use Rattle.ncq_delta.proofs.JoinLaws.{cost_most}
use Rattle.ncq_feed.proofs.scan.changes_of.Goals as goal

pub returns-in_err-add_entry-clause-cost : goal.returns-in_err-add_entry-clause-cost
returns-in_err-add_entry-clause-cost g c =
    cost_most (entry_delta c.args.shape.now) c.args.entries.now c.loop-entry.entry-index c.args.steps.now c.loop-entry.steps c.add_entry.new.steps c.entry-item.result
    c.loop-entry-test.true c.entry-item.is c.loop-entry.invariant.cost c.add_entry.ensures.cost
