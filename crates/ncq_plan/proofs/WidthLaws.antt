-- The rows of an expression have a value for each of its slots, and the plan of a query has the slots of its arms.
use Rattle.std.proofs.Common.{◌≡◌, ℕ, ◌+◌, ◌≤◌, Bool, true, false, cond, List, [], ◌∷◌, length, sym, ◌∙◌, arith, add_assoc, add-zero}
use Rattle.std.specs.List.{filter, AllByRecursion}
use Rattle.ncq_tree.specs.declared.model.Element.{Element}
use Rattle.ncq_row.specs.declared.shape.Shape.{Shape}
use Rattle.ncq_row.specs.Embeddings.{Row, rows_of}
use Rattle.ncq_row.specs.Widths.{width}
use Rattle.ncq_row.proofs.CallerLemmas.{rows_have_width}
use Rattle.ncq_row.proofs.WideRows.{AreWide, wide_renamed, wide_append, wide_flat_map, wide_behind}
use Rattle.ncq_row.specs.declared.pair.Pair.{Pair}
use Rattle.ncq_plan.specs.declared.expr.Expr.{Expr}
use Rattle.ncq_plan.specs.declared.expr.Expr.TheVariants.{Join}
use Rattle.ncq_plan.specs.declared.query.Arm.{Arm}
use Rattle.ncq_plan.specs.declared.query.NormalQuery.{NormalQuery}
use Rattle.ncq_plan.specs.Meets.{has_atom, is_within, agree}
use Rattle.ncq_plan.specs.Exprs.{World, expr_width, scan_rows, followed_by, join_rows, rows_in}
use Rattle.ncq_plan.specs.Plans.{arm_plan, with_arms, arms_plan, plan_of}
use Rattle.ncq_plan.specs.Products.{arm_width}
use Rattle.ncq_plan.specs.WellFormed.{arms_width, IsWellFormed}
use Rattle.ncq_plan.proofs.ExprCases.{expr_induction}
use Rattle.ncq_plan.proofs.ExprRows.{width_scan, width_equal, width_range, width_join, rows_scan, rows_equal, rows_range, rows_join}
use Rattle.ncq_plan.proofs.PlanFits.{arm_plan-width}

wide_filter : (width : ℕ) (test : Row → Bool) (rows : List Row) → AreWide width rows → AreWide width (filter test rows)
wide_filter width test [] all = tt
wide_filter width test (row ∷ rows) all =
    elim (test row) as (λ t. AreWide width (cond t (row ∷ filter test rows) (filter test rows))) [
      | true ↦ (all.0, wide_filter width test rows all.1)
      | false ↦ wide_filter width test rows all.1
    ]

pub wide_scan : (shape : Shape) (elements : List Element) → AreWide (width shape) (scan_rows shape elements)
wide_scan shape elements = wide_flat_map (width shape) (rows_of shape) (rows_have_width shape) elements

wide_join : (pairs : List Pair) (left right : ℕ) (lefts rights : List Row) → AreWide left lefts → AreWide right rights → AreWide (left + right) (join_rows pairs lefts rights)
wide_join pairs left right [] rights l r = tt
wide_join pairs left right (row ∷ lefts) rights l r =
    wide_append (left + right) (followed_by pairs rights row) (join_rows pairs lefts rights)
    (wide_behind left right row (filter (agree pairs row) rights) l.0 (wide_filter right (agree pairs row) rights r))
    (wide_join pairs left right lefts rights l.1 r)

pub rows_are_wide : (world : World) (expr : Expr) → AllByRecursion (λ row. length row ≡ expr_width expr) (rows_in expr world)
rows_are_wide world = expr_induction (λ expr. AreWide (expr_width expr) (rows_in expr world))
    (λ source shape. wide_renamed (sym (width_scan source shape)) (sym (rows_scan world source shape)) (wide_scan shape (world source)))
    (λ input slot constant all. wide_renamed (sym (width_equal input slot constant)) (sym (rows_equal world input slot constant)) (wide_filter (expr_width input) (has_atom slot constant) (rows_in input world) all))
    (λ input slot interval all. wide_renamed (sym (width_range input slot interval)) (sym (rows_range world input slot interval)) (wide_filter (expr_width input) (is_within slot interval) (rows_in input world) all))
    (λ left right pairs l r. wide_renamed (sym (width_join left right pairs)) (sym (rows_join world left right pairs)) (wide_join pairs (expr_width left) (expr_width right) (rows_in left world) (rows_in right world) l r))

joined-width : (arms : List Arm) (plan : Expr) → expr_width (with_arms plan arms) ≡ expr_width plan + arms_width arms
joined-width [] plan = sym (add-zero (expr_width plan))
joined-width (arm ∷ arms) plan =
    joined-width arms (Join plan (arm_plan arm) arm.pairs)
    ∙ (λ i. width_join plan (arm_plan arm) arm.pairs i + arms_width arms)
    ∙ (λ i. expr_width plan + arm_plan-width arm i + arms_width arms)
    ∙ add_assoc (expr_width plan) (arm_width arm) (arms_width arms)

pub plan_is_wide : (query : NormalQuery) → IsWellFormed query → expr_width (plan_of query) ≡ arms_width query.arms
plan_is_wide query fits = by query.arms fits.some
  where
    by : (arms : List Arm) → 1 ≤ length arms → expr_width (arms_plan arms) ≡ arms_width arms
    by [] some = absurd (omega arith)
    by (arm ∷ arms) some = joined-width arms (arm_plan arm) ∙ (λ i. arm_plan-width arm i + arms_width arms)
