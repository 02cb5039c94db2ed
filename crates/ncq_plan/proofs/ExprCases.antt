-- Expressions by their variants: induction, and what a fold gives at each of the four.
use Rattle.std.proofs.Common.{◌≡◌, ℕ, List, ap, sym, subst, ◌∙◌}
use Rattle.ncq_base.specs.declared.atom.Atom.{Atom}
use Rattle.ncq_row.specs.declared.shape.Shape.{Shape}
use Rattle.ncq_base.specs.declared.interval.Interval.{Interval}
use Rattle.ncq_row.specs.declared.pair.Pair.{Pair}
use Rattle.ncq_plan.specs.declared.expr.Expr.{Expr}
use Rattle.ncq_plan.specs.declared.expr.Expr.TheVariants.{Scan, EqSel, RangeSel, Join, rolls-Scan, rolls-EqSel, rolls-RangeSel, rolls-Join}
use Rattle.ncq_plan.specs.declared.expr.Expr.TheOpen.{Expr-F}
use Rattle.ncq_plan.specs.declared.expr.Expr.TheOpen.Expr-F.{Scan as ScanLayer, EqSel as EqualLayer, RangeSel as RangeLayer, Join as JoinLayer}
use Rattle.ncq_plan.specs.declared.expr.Expr.TheFolds.{fold-Expr, fold-roll-Expr, para-Expr, para-roll-Expr, ind-Expr, map-Expr}
use Rattle.ncq_plan.specs.declared.expr.Expr.TheViews.{roll-Expr}

module _ {A : Type 0} (step : Expr-F A → A) where
  pub fold_scan : (source : List ℕ) (shape : Shape) → fold-Expr A step (Scan source shape) ≡ step (ScanLayer source shape)
  fold_scan source shape = ap (fold-Expr A step) (sym (rolls-Scan source shape)) ∙ fold-roll-Expr A step (ScanLayer source shape)

  pub fold_equal : (input : Expr) (slot : ℕ) (constant : Atom) → fold-Expr A step (EqSel input slot constant) ≡ step (EqualLayer (fold-Expr A step input) slot constant)
  fold_equal input slot constant = ap (fold-Expr A step) (sym (rolls-EqSel input slot constant)) ∙ fold-roll-Expr A step (EqualLayer input slot constant)

  pub fold_range : (input : Expr) (slot : ℕ) (interval : Interval) → fold-Expr A step (RangeSel input slot interval) ≡ step (RangeLayer (fold-Expr A step input) slot interval)
  fold_range input slot interval = ap (fold-Expr A step) (sym (rolls-RangeSel input slot interval)) ∙ fold-roll-Expr A step (RangeLayer input slot interval)

  pub fold_join : (left right : Expr) (pairs : List Pair) → fold-Expr A step (Join left right pairs) ≡ step (JoinLayer (fold-Expr A step left) (fold-Expr A step right) pairs)
  fold_join left right pairs = ap (fold-Expr A step) (sym (rolls-Join left right pairs)) ∙ fold-roll-Expr A step (JoinLayer left right pairs)

module _ {A : Type 0} (step : Expr-F (Expr × A) → A) where
  pub para_scan : (source : List ℕ) (shape : Shape) → para-Expr A step (Scan source shape) ≡ step (ScanLayer source shape)
  para_scan source shape = ap (para-Expr A step) (sym (rolls-Scan source shape)) ∙ para-roll-Expr A step (ScanLayer source shape)

  pub para_equal : (input : Expr) (slot : ℕ) (constant : Atom) → para-Expr A step (EqSel input slot constant) ≡ step (EqualLayer (input, para-Expr A step input) slot constant)
  para_equal input slot constant = ap (para-Expr A step) (sym (rolls-EqSel input slot constant)) ∙ para-roll-Expr A step (EqualLayer input slot constant)

  pub para_range : (input : Expr) (slot : ℕ) (interval : Interval) → para-Expr A step (RangeSel input slot interval) ≡ step (RangeLayer (input, para-Expr A step input) slot interval)
  para_range input slot interval = ap (para-Expr A step) (sym (rolls-RangeSel input slot interval)) ∙ para-roll-Expr A step (RangeLayer input slot interval)

  pub para_join : (left right : Expr) (pairs : List Pair) → para-Expr A step (Join left right pairs) ≡ step (JoinLayer (left, para-Expr A step left) (right, para-Expr A step right) pairs)
  para_join left right pairs = ap (para-Expr A step) (sym (rolls-Join left right pairs)) ∙ para-roll-Expr A step (JoinLayer left right pairs)

-- what holds of each variant where it holds of the inputs holds of every expression
module _ (P : Expr → Type 0)
    (of_scan : (source : List ℕ) (shape : Shape) → P (Scan source shape))
    (of_equal : (input : Expr) (slot : ℕ) (constant : Atom) → P input → P (EqSel input slot constant))
    (of_range : (input : Expr) (slot : ℕ) (interval : Interval) → P input → P (RangeSel input slot interval))
    (of_join : (left right : Expr) (pairs : List Pair) → P left → P right → P (Join left right pairs)) where
  by_variant : (y : Expr-F ((e : Expr) × P e)) → P (roll-Expr (map-Expr _ _ (λ e. e.0) y))
  by_variant (ScanLayer source shape) = subst P (sym (rolls-Scan source shape)) (of_scan source shape)
  by_variant (EqualLayer input slot constant) = subst P (sym (rolls-EqSel input.0 slot constant)) (of_equal input.0 slot constant input.1)
  by_variant (RangeLayer input slot interval) = subst P (sym (rolls-RangeSel input.0 slot interval)) (of_range input.0 slot interval input.1)
  by_variant (JoinLayer left right pairs) = subst P (sym (rolls-Join left.0 right.0 pairs)) (of_join left.0 right.0 pairs left.1 right.1)

  pub expr_induction : (expr : Expr) → P expr
  expr_induction = ind-Expr P (λ x y e. subst (λ w. P (roll-Expr w)) e (by_variant y))

-- what holds of each variant holds of every expression
pub expr_cases : (P : Expr → Type 0)
    → ((source : List ℕ) (shape : Shape) → P (Scan source shape))
    → ((input : Expr) (slot : ℕ) (constant : Atom) → P (EqSel input slot constant))
    → ((input : Expr) (slot : ℕ) (interval : Interval) → P (RangeSel input slot interval))
    → ((left right : Expr) (pairs : List Pair) → P (Join left right pairs))
    → (expr : Expr) → P expr
expr_cases P of_scan of_equal of_range of_join =
    expr_induction P of_scan (λ input slot constant below. of_equal input slot constant) (λ input slot interval below. of_range input slot interval) (λ left right pairs l r. of_join left right pairs)
