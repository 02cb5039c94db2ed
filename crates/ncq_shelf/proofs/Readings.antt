-- An expression reads another in one way at most.
use Rattle.std.proofs.Common.{◌≡◌, inl, inr, refl, sym, ap, ◌∙◌, subst}
use Rattle.ncq_plan.specs.declared.expr.Expr.{Expr}
use Rattle.ncq_plan.specs.declared.expr.Expr.TheVariants.{EqSel, RangeSel, Join}
use Rattle.ncq_plan.specs.declared.expr.Expr.TheOpen.{Expr-F}
use Rattle.ncq_plan.specs.declared.expr.Expr.TheOpen.Expr-F.{Scan as ScanLayer, EqSel as EqualLayer, RangeSel as RangeLayer, Join as JoinLayer}
use Rattle.ncq_plan.specs.declared.expr.Expr.TheViews.{out-Expr}
use Rattle.ncq_readers.specs.Readings.{Reading}
use Rattle.ncq_readers.specs.Readings.Reading.{equal, range, joined}
use Rattle.ncq_plan.proofs.CallerLemmas.{expr_cases}
use Rattle.ncq_shelf.specs.Parts.{IsInput}
use Rattle.ncq_shelf.specs.Wired.{Reads}
use Rattle.ncq_shelf.proofs.Layers.{out-EqSel, out-RangeSel, out-Join, no_input-scan, input_of-equal, equal-input_of, input_of-range, range-input_of, input_of-join, left-input_of, right-input_of}

-- how an operator reads
abbrev reading_of : Expr-F Expr → Reading
reading_of (ScanLayer source shape) = joined
reading_of (EqualLayer input slot constant) = equal slot constant
reading_of (RangeLayer input slot interval) = range slot interval
reading_of (JoinLayer left right pairs) = joined

reads_as : (inner : Expr) (reading : Reading) (whole : Expr) → Reads inner reading whole → reading_of (out-Expr whole) ≡ reading
reads_as inner (equal slot constant) whole is = ap (λ w. reading_of (out-Expr w)) is ∙ ap reading_of (out-EqSel inner slot constant)
reads_as inner (range slot interval) whole is = ap (λ w. reading_of (out-Expr w)) is ∙ ap reading_of (out-RangeSel inner slot interval)
reads_as inner joined whole r = ap (λ w. reading_of (out-Expr w)) r.is ∙ ap reading_of (out-Join r.first r.second r.pairs)

pub reads_once : (inner : Expr) (one other : Reading) (whole : Expr) → Reads inner one whole → Reads inner other whole → one ≡ other
reads_once inner one other whole r q = sym (reads_as inner one whole r) ∙ reads_as inner other whole q

-- what is read is an input
pub reads_input : (inner : Expr) (reading : Reading) (whole : Expr) → Reads inner reading whole → IsInput inner whole
reads_input inner (equal slot constant) whole is = subst (λ w. IsInput inner w) (sym is) (equal-input_of inner slot constant)
reads_input inner (range slot interval) whole is = subst (λ w. IsInput inner w) (sym is) (range-input_of inner slot interval)
reads_input inner joined whole r = subst (λ w. IsInput inner w) (sym r.is) (elim r.side [
  | inl same ↦ subst (λ e. IsInput e (Join r.first r.second r.pairs)) (sym same) (left-input_of r.first r.second r.pairs)
  | inr same ↦ subst (λ e. IsInput e (Join r.first r.second r.pairs)) (sym same) (right-input_of r.first r.second r.pairs)
])

-- an input is read in some way
pub input_read : (inner whole : Expr) → IsInput inner whole → (reading : Reading) × Reads inner reading whole
input_read inner whole = expr_cases (λ w. IsInput inner w → (reading : Reading) × Reads inner reading w)
    (λ source shape reads. absurd (no_input-scan inner source shape reads))
    (λ input slot constant reads. (equal slot constant, ap (λ e. EqSel e slot constant) (sym (input_of-equal inner input slot constant reads))))
    (λ input slot interval reads. (range slot interval, ap (λ e. RangeSel e slot interval) (sym (input_of-range inner input slot interval reads))))
    (λ left right pairs reads. (joined, record { first = left; second = right; pairs = pairs; is = refl; side = input_of-join inner left right pairs reads }))
    whole
