use Rattle.ncq_base.specs.Exact.{exact_from}
use Rattle.ncq_plan.specs.contracts.residual.Check.{the_row}
use Rattle.ncq_plan.proofs.residual.CheckPartialEq.eq.Goals as goal

pub returns : goal.returns
returns c = exact_from the_row.coded _ _ _ c.same_check.ensures
