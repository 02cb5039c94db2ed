-- The sources that an expression scans.
use Rattle.std.specs.Prelude.{ℕ, List, [], ◌∷◌, ◌++◌}
use Rattle.ncq_plan.specs.declared.expr.Expr.{Expr}
use Rattle.ncq_plan.specs.declared.expr.Expr.TheOpen.{Expr-F}
use Rattle.ncq_plan.specs.declared.expr.Expr.TheOpen.Expr-F.{Scan, EqSel, RangeSel, Join}
use Rattle.ncq_plan.specs.declared.expr.Expr.TheFolds.{fold-Expr}

-- a scan has its source, a selection the sources of its input, a join those of the left and then
-- those of the right
abbrev pub scans_step : Expr-F (List (List ℕ)) → List (List ℕ)
scans_step (Scan source shape) = source ∷ []
scans_step (EqSel input slot constant) = input
scans_step (RangeSel input slot interval) = input
scans_step (Join left right pairs) = left ++ right

-- the sources that an expression scans, from left to right
abbrev pub scanned_by : Expr → List (List ℕ)
scanned_by = fold-Expr (List (List ℕ)) scans_step
