-- Widths, operators, rows and signed rows of expressions, by their variants.
use Rattle.std.proofs.Common.{◌≡◌, ℕ, ◌+◌, ◌&&◌, true, List}
use Rattle.std.specs.Prelude.{nat_lt}
use Rattle.std.specs.List.{filter, list_all}
use Rattle.ncq_base.specs.declared.atom.Atom.{Atom}
use Rattle.ncq_row.specs.declared.shape.Shape.{Shape}
use Rattle.ncq_row.specs.Widths.{width}
use Rattle.ncq_base.specs.declared.interval.Interval.{Interval}
use Rattle.ncq_row.specs.declared.pair.Pair.{Pair}
use Rattle.ncq_plan.specs.declared.expr.Expr.{Expr}
use Rattle.ncq_plan.specs.declared.expr.Expr.TheVariants.{Scan, EqSel, RangeSel, Join}
use Rattle.ncq_plan.specs.Meets.{has_atom, is_within}
use Rattle.ncq_plan.specs.Exprs.{World, expr_width, width_step, operators, operators_step, scan_rows, join_rows, rows_in, rows_step}
use Rattle.ncq_plan.specs.Deltas.{ScanDeltas, selected_delta, join_delta, delta_of, delta_step}
use Rattle.ncq_plan.specs.WellFormed.{pair_fits, slots_fit, slots_step}
use Rattle.ncq_plan.proofs.ExprCases.{fold_scan, fold_equal, fold_range, fold_join, para_scan, para_equal, para_range, para_join}

pub width_scan : (source : List ℕ) (shape : Shape) → expr_width (Scan source shape) ≡ width shape
width_scan = fold_scan width_step

pub width_equal : (input : Expr) (slot : ℕ) (constant : Atom) → expr_width (EqSel input slot constant) ≡ expr_width input
width_equal = fold_equal width_step

pub width_range : (input : Expr) (slot : ℕ) (interval : Interval) → expr_width (RangeSel input slot interval) ≡ expr_width input
width_range = fold_range width_step

pub width_join : (left right : Expr) (pairs : List Pair) → expr_width (Join left right pairs) ≡ expr_width left + expr_width right
width_join = fold_join width_step

pub operators_scan : (source : List ℕ) (shape : Shape) → operators (Scan source shape) ≡ 1
operators_scan = fold_scan operators_step

pub operators_equal : (input : Expr) (slot : ℕ) (constant : Atom) → operators (EqSel input slot constant) ≡ operators input + 1
operators_equal = fold_equal operators_step

pub operators_range : (input : Expr) (slot : ℕ) (interval : Interval) → operators (RangeSel input slot interval) ≡ operators input + 1
operators_range = fold_range operators_step

pub operators_join : (left right : Expr) (pairs : List Pair) → operators (Join left right pairs) ≡ operators left + operators right + 1
operators_join = fold_join operators_step

pub fit_scan : (source : List ℕ) (shape : Shape) → slots_fit (Scan source shape) ≡ true
fit_scan = para_scan slots_step

pub fit_equal : (input : Expr) (slot : ℕ) (constant : Atom) → slots_fit (EqSel input slot constant) ≡ (slots_fit input && nat_lt slot (expr_width input))
fit_equal = para_equal slots_step

pub fit_range : (input : Expr) (slot : ℕ) (interval : Interval) → slots_fit (RangeSel input slot interval) ≡ (slots_fit input && nat_lt slot (expr_width input))
fit_range = para_range slots_step

pub fit_join : (left right : Expr) (pairs : List Pair)
    → slots_fit (Join left right pairs) ≡ (slots_fit left && slots_fit right && list_all (pair_fits (expr_width left) (expr_width right)) pairs)
fit_join = para_join slots_step

module _ (world : World) where
  pub rows_scan : (source : List ℕ) (shape : Shape) → rows_in (Scan source shape) world ≡ scan_rows shape (world source)
  rows_scan = fold_scan (rows_step world)

  pub rows_equal : (input : Expr) (slot : ℕ) (constant : Atom) → rows_in (EqSel input slot constant) world ≡ filter (has_atom slot constant) (rows_in input world)
  rows_equal = fold_equal (rows_step world)

  pub rows_range : (input : Expr) (slot : ℕ) (interval : Interval) → rows_in (RangeSel input slot interval) world ≡ filter (is_within slot interval) (rows_in input world)
  rows_range = fold_range (rows_step world)

  pub rows_join : (left right : Expr) (pairs : List Pair) → rows_in (Join left right pairs) world ≡ join_rows pairs (rows_in left world) (rows_in right world)
  rows_join = fold_join (rows_step world)

module _ (before after : World) (scans : ScanDeltas) where
  pub delta_scan : (source : List ℕ) (shape : Shape) → delta_of before after scans (Scan source shape) ≡ scans source shape
  delta_scan = para_scan (delta_step before after scans)

  pub delta_equal : (input : Expr) (slot : ℕ) (constant : Atom)
      → delta_of before after scans (EqSel input slot constant) ≡ selected_delta (has_atom slot constant) (delta_of before after scans input)
  delta_equal = para_equal (delta_step before after scans)

  pub delta_range : (input : Expr) (slot : ℕ) (interval : Interval)
      → delta_of before after scans (RangeSel input slot interval) ≡ selected_delta (is_within slot interval) (delta_of before after scans input)
  delta_range = para_range (delta_step before after scans)

  pub delta_join : (left right : Expr) (pairs : List Pair)
      → delta_of before after scans (Join left right pairs) ≡ join_delta pairs (delta_of before after scans left) (rows_in right before) (rows_in left after) (delta_of before after scans right)
  delta_join = para_join (delta_step before after scans)
