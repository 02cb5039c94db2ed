-- What a report tells of a history: how much there is, and the groups of the parts of the live
-- plans.
use Rattle.std.specs.Prelude.{◌++◌, List, [], ◌∷◌, length, if◌then◌else◌}
use Rattle.std.specs.List.{flat_map, list_any}
use Rattle.ncq_plan.specs.ExprLists.{is_expr}
use Rattle.ncq_plan.specs.declared.expr.Expr.{Expr}
use Rattle.ncq_plan.specs.declared.expr.Expr.TheFolds.{para-Expr}
use Rattle.ncq_plan.specs.declared.expr.Expr.TheOpen.{Expr-F}
use Rattle.ncq_plan.specs.declared.expr.Expr.TheOpen.Expr-F.{Scan as ScanLayer}
use Rattle.ncq_plan.specs.declared.expr.Expr.TheOpen.Expr-F.{EqSel as EqualLayer}
use Rattle.ncq_plan.specs.declared.expr.Expr.TheOpen.Expr-F.{RangeSel as RangeLayer}
use Rattle.ncq_plan.specs.declared.expr.Expr.TheOpen.Expr-F.{Join as JoinLayer}
use Rattle.ncq_plan.specs.declared.expr.Expr.TheVariants.{Scan, EqSel, RangeSel, Join}
use Rattle.ncq_report.specs.Lines.{group_lines}
use Rattle.ncq_report.specs.declared.report.Summary.{Summary}
use Rattle.ncq_engine.specs.History.{History, changes, live, sources}
use Rattle.ncq_engine.specs.Notices.{Language}
use Rattle.ncq_engine.specs.Plannings.{live_plans}

-- an expression and the parts of its inputs
abbrev pub parts_step : Expr-F (Expr × List Expr) → List Expr
parts_step (ScanLayer source shape) = Scan source shape ∷ []
parts_step (EqualLayer input slot constant) = EqSel input.0 slot constant ∷ input.1
parts_step (RangeLayer input slot interval) = RangeSel input.0 slot interval ∷ input.1
parts_step (JoinLayer left right pairs) = Join left.0 right.0 pairs ∷ left.1 ++ right.1

abbrev pub parts : Expr → List Expr
parts = para-Expr (List Expr) parts_step

-- one more expression, unless it is there
abbrev pub with_expr : Expr → List Expr → List Expr
with_expr expr list = if list_any (is_expr expr) list then list else expr ∷ list

-- each expression once
abbrev pub distinct : List Expr → List Expr
distinct [] = []
distinct (expr ∷ more) = with_expr expr (distinct more)

module _ (language : Language) where
  -- the parts of the live plans, each once
  abbrev pub closure : History → List Expr
  closure history = distinct (flat_map parts (live_plans language history))

  -- what a report tells
  abbrev pub summary : History → Summary
  summary history = record {
    queries = length (live history);
    sources = length (sources history);
    changes = changes history;
    files = length (closure history);
    groups = group_lines (closure history);
  }
