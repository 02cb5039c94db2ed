use Rattle.ncq_base.specs.Exact.{exact_from}
use Rattle.ncq_row.specs.contracts.value.Value.{the_row}
use Rattle.ncq_row.proofs.slot.SlotPartialEq.eq.Goals as goal

pub returns : goal.returns
returns c = exact_from the_row.coded _ _ _ c.is_same.ensures
