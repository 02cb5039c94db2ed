-- The plan that joins first: selections stand above the join of all arms, so that queries which
-- differ in them share the join.
use Rattle.std.specs.Prelude.{ℕ, ◌+◌, List, [], ◌∷◌, ◌++◌, map}
use Rattle.ncq_plan.specs.declared.expr.Expr.{Expr}
use Rattle.ncq_plan.specs.declared.query.Arm.{Arm}
use Rattle.ncq_plan.specs.declared.query.EqualTo.{EqualTo}
use Rattle.ncq_plan.specs.declared.query.Within.{Within}
use Rattle.ncq_plan.specs.declared.query.NormalQuery.{NormalQuery}
use Rattle.ncq_plan.specs.Plans.{with_equals, with_ranges, plan_of}
use Rattle.ncq_plan.specs.Products.{arm_width}

-- an arm without its equalities and ranges
abbrev pub bare_arm : Arm → Arm
bare_arm arm = record arm { equals = []; ranges = [] }

-- a query without its equalities and ranges
abbrev pub bare_query : NormalQuery → NormalQuery
bare_query query = record query { arms = map bare_arm query.arms }

-- the plan of the query without its equalities and ranges
abbrev pub bare_of : NormalQuery → Expr
bare_of query = plan_of (bare_query query)

-- the demand of an arm, at the slot of the query: behind the arm's offset
abbrev pub equal_behind : ℕ → EqualTo → EqualTo
equal_behind offset equal = record equal { slot = offset + equal.slot }

abbrev pub range_behind : ℕ → Within → Within
range_behind offset range = record range { slot = offset + range.slot }

-- the demands of all arms at the slots of the query, arm by arm in order, the first of the arms at
-- this offset
abbrev pub equals_from : ℕ → List Arm → List EqualTo
equals_from offset [] = []
equals_from offset (arm ∷ arms) =
    map (equal_behind offset) arm.equals ++ equals_from (offset + arm_width arm) arms

abbrev pub ranges_from : ℕ → List Arm → List Within
ranges_from offset [] = []
ranges_from offset (arm ∷ arms) =
    map (range_behind offset) arm.ranges ++ ranges_from (offset + arm_width arm) arms

-- the plan that joins first: the bare plan, then all equalities, then all ranges
abbrev pub late_of : NormalQuery → Expr
late_of query =
    with_ranges (with_equals (bare_of query) (equals_from 0 query.arms)) (ranges_from 0 query.arms)
