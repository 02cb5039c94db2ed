-- Which inputs each operator has.
use Rattle.std.proofs.Common.{◌≡◌, ℕ, ◌⊎◌, inl, inr, List, subst, sym, ap, refl, ◌∙◌}
use Rattle.ncq_base.specs.declared.atom.Atom.{Atom}
use Rattle.ncq_row.specs.declared.pair.Pair.{Pair}
use Rattle.ncq_row.specs.declared.shape.Shape.{Shape}
use Rattle.ncq_plan.specs.declared.expr.Expr.{Expr}
use Rattle.ncq_base.specs.declared.interval.Interval.{Interval}
use Rattle.ncq_plan.specs.declared.expr.Expr.TheVariants.{Scan, EqSel, RangeSel, Join, rolls-Scan, rolls-EqSel, rolls-RangeSel, rolls-Join}
use Rattle.ncq_plan.specs.declared.expr.Expr.TheViews.{out-Expr, out-roll-Expr}
use Rattle.ncq_plan.specs.declared.expr.Expr.TheOpen.Expr-F.{Scan as ScanLayer, EqSel as EqLayer, RangeSel as RangeLayer, Join as JoinLayer}
use Rattle.ncq_shelf.specs.Parts.{IsInput, IsRead}

pub out-Scan : (source : List ℕ) (shape : Shape) → out-Expr (Scan source shape) ≡ ScanLayer source shape
out-Scan source shape = ap out-Expr (sym (rolls-Scan source shape)) ∙ out-roll-Expr (ScanLayer source shape)

pub out-EqSel : (input : Expr) (slot : ℕ) (constant : Atom) → out-Expr (EqSel input slot constant) ≡ EqLayer input slot constant
out-EqSel input slot constant = ap out-Expr (sym (rolls-EqSel input slot constant)) ∙ out-roll-Expr (EqLayer input slot constant)

pub out-RangeSel : (input : Expr) (slot : ℕ) (interval : Interval) → out-Expr (RangeSel input slot interval) ≡ RangeLayer input slot interval
out-RangeSel input slot interval = ap out-Expr (sym (rolls-RangeSel input slot interval)) ∙ out-roll-Expr (RangeLayer input slot interval)

pub out-Join : (left right : Expr) (pairs : List Pair) → out-Expr (Join left right pairs) ≡ JoinLayer left right pairs
out-Join left right pairs = ap out-Expr (sym (rolls-Join left right pairs)) ∙ out-roll-Expr (JoinLayer left right pairs)

pub no_input-scan : (e : Expr) (source : List ℕ) (shape : Shape) → IsInput e (Scan source shape) → ⊥
no_input-scan e source shape h = subst (λ l. IsRead e l) (out-Scan source shape) h

pub input_of-equal : (e input : Expr) (slot : ℕ) (constant : Atom) → IsInput e (EqSel input slot constant) → e ≡ input
input_of-equal e input slot constant h = subst (λ l. IsRead e l) (out-EqSel input slot constant) h

pub equal-input_of : (input : Expr) (slot : ℕ) (constant : Atom) → IsInput input (EqSel input slot constant)
equal-input_of input slot constant = subst (λ l. IsRead input l) (sym (out-EqSel input slot constant)) refl

pub input_of-range : (e input : Expr) (slot : ℕ) (interval : Interval) → IsInput e (RangeSel input slot interval) → e ≡ input
input_of-range e input slot interval h = subst (λ l. IsRead e l) (out-RangeSel input slot interval) h

pub range-input_of : (input : Expr) (slot : ℕ) (interval : Interval) → IsInput input (RangeSel input slot interval)
range-input_of input slot interval = subst (λ l. IsRead input l) (sym (out-RangeSel input slot interval)) refl

pub input_of-join : (e left right : Expr) (pairs : List Pair) → IsInput e (Join left right pairs) → (e ≡ left) ⊎ (e ≡ right)
input_of-join e left right pairs h = subst (λ l. IsRead e l) (out-Join left right pairs) h

pub left-input_of : (left right : Expr) (pairs : List Pair) → IsInput left (Join left right pairs)
left-input_of left right pairs = subst (λ l. IsRead left l) (sym (out-Join left right pairs)) (inl refl)

pub right-input_of : (left right : Expr) (pairs : List Pair) → IsInput right (Join left right pairs)
right-input_of left right pairs = subst (λ l. IsRead right l) (sym (out-Join left right pairs)) (inr refl)
