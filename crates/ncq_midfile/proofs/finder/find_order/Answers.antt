use Rattle.std.proofs.Common.{sym, ◌∙◌}
use Rattle.ncq_midfile.proofs.FinderLaws.{no_index, by_slot}
use Rattle.ncq_midfile.proofs.finder.find_order.Goals as goal

pub unreachable-requires : goal.unreachable-requires
unreachable-requires c = no_index _ _ (c.in_ok-at.ensures.order c.index-finders-at.result) c.in-Index.field-0 (sym c.index-finders-at.is ∙ c.in-Index.is)

pub returns-clause-slot : goal.returns-clause-slot
returns-clause-slot c = by_slot c.args.slot _ (c.in_ok-at.ensures.order c.index-finders-at.result) c.in-Order.order (sym c.index-finders-at.is ∙ c.in-Order.is)
