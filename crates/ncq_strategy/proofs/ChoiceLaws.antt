-- What holds of a query's plan by either choice.
use Rattle.std.proofs.Common.{◌≡◌, refl}
use Rattle.ncq_plan.specs.Exprs.{World, expr_width, rows_in}
use Rattle.ncq_plan.specs.Plans.{plan_of}
use Rattle.ncq_plan.specs.WellFormed.{arms_width, IsWellFormed, IsWellFormedExpr}
use Rattle.ncq_plan.specs.declared.query.NormalQuery.{NormalQuery}
use Rattle.ncq_plan.proofs.CallerLemmas.{plan_is_wide}
use Rattle.ncq_plan.proofs.LateLaws.{late_is_well_formed, late_is_wide, late_rows}
use Rattle.ncq_plan.proofs.PlanFits.{plan_is_well_formed}
use Rattle.ncq_strategy.specs.Choices.{plan_by}
use Rattle.ncq_strategy.specs.declared.choice.Choice.{Choice}
use Rattle.ncq_strategy.specs.declared.choice.Choice.TheVariants.{SelectFirst, JoinFirst}

-- it is well formed
pub either_formed : (choice : Choice) (query : NormalQuery) → IsWellFormed query → IsWellFormedExpr (plan_by choice query)
either_formed SelectFirst query formed = plan_is_well_formed query formed
either_formed JoinFirst query formed = late_is_well_formed query formed

-- has the slots of the query's arms
pub either_wide : (choice : Choice) (query : NormalQuery) → IsWellFormed query → expr_width (plan_by choice query) ≡ arms_width query.arms
either_wide SelectFirst query formed = plan_is_wide query formed
either_wide JoinFirst query formed = late_is_wide query formed

-- and has the rows of the plan that selects first, in the same order
pub either_rows : (choice : Choice) (query : NormalQuery) (world : World) → IsWellFormed query → rows_in (plan_by choice query) world ≡ rows_in (plan_of query) world
either_rows SelectFirst query world formed = refl
either_rows JoinFirst query world formed = late_rows query world formed
