-- Which plan a query has where so many live queries have its bare plan.
use Rattle.std.specs.Prelude.{ℕ, ◌&&◌, nat_le, if◌then◌else◌, length}
use Rattle.ncq_plan.specs.declared.expr.Expr.{Expr}
use Rattle.ncq_plan.specs.declared.query.NormalQuery.{NormalQuery}
use Rattle.ncq_plan.specs.Late.{late_of}
use Rattle.ncq_plan.specs.Plans.{plan_of}
use Rattle.ncq_strategy.specs.declared.choice.Choice.{Choice}
use Rattle.ncq_strategy.specs.declared.choice.Choice.TheVariants.{SelectFirst, JoinFirst}

-- a query joins first where it has two or more arms and at least three live queries have its bare
-- plan
abbrev pub choice_of : NormalQuery → ℕ → Choice
choice_of query live =
    if nat_le 2 (length query.arms) && nat_le 3 live then JoinFirst else SelectFirst

abbrev pub plan_by : Choice → NormalQuery → Expr
plan_by SelectFirst query = plan_of query
plan_by JoinFirst query = late_of query

-- the plan of a query that comes where so many live queries have its bare plan
abbrev pub plan_among : NormalQuery → ℕ → Expr
plan_among query live = plan_by (choice_of query live) query
