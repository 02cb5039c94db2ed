use Rattle.ncq_plan.proofs.LateLaws.{late_rows, late_is_well_formed, late_is_wide, bare_plan_is_well_formed, bare_is_wide}
use Rattle.ncq_plan.proofs.laws.late_plans_give_the_rows.Goals as goal

pub returns-clause-rows : goal.returns-clause-rows
returns-clause-rows c = late_rows

pub returns-clause-well_formed : goal.returns-clause-well_formed
returns-clause-well_formed c = late_is_well_formed

pub returns-clause-bare : goal.returns-clause-bare
returns-clause-bare c = bare_plan_is_well_formed

pub returns-clause-width : goal.returns-clause-width
returns-clause-width c = late_is_wide

pub returns-clause-bare_width : goal.returns-clause-bare_width
returns-clause-bare_width c = bare_is_wide
