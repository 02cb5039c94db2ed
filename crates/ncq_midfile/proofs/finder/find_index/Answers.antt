use Rattle.std.proofs.Common.{sym, ◌∙◌}
use Rattle.ncq_midfile.proofs.FinderLaws.{no_order, on_slots}
use Rattle.ncq_midfile.proofs.finder.find_index.Goals as goal

pub unreachable-requires : goal.unreachable-requires
unreachable-requires c = no_order _ _ (c.in_ok-at.ensures.index c.index-finders-at.result) c.in-Order.field-0 (sym c.index-finders-at.is ∙ c.in-Order.is)

pub returns-clause-slots : goal.returns-clause-slots
returns-clause-slots c = on_slots c.args.slots.now _ (c.in_ok-at.ensures.index c.index-finders-at.result) c.in-Index.index (sym c.index-finders-at.is ∙ c.in-Index.is)
