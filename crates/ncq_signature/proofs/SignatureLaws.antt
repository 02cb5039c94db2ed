-- Expressions have one signature exactly where they differ at most in the outermost constant or interval.
use Rattle.std.proofs.Common.{◌≡◌, inl, inr, ℕ, List, refl, sym, ◌∙◌, ap}
use Rattle.ncq_base.specs.declared.atom.Atom.{Atom}
use Rattle.ncq_row.specs.declared.shape.Shape.{Shape}
use Rattle.ncq_base.specs.declared.interval.Interval.{Interval}
use Rattle.ncq_row.specs.declared.pair.Pair.{Pair}
use Rattle.ncq_plan.specs.declared.expr.Expr.{Expr}
use Rattle.ncq_plan.specs.declared.expr.Expr.TheVariants.{Scan, EqSel, RangeSel, Join}
use Rattle.ncq_plan.proofs.ExprCases.{expr_cases}
use Rattle.ncq_signature.specs.declared.signature.Signature.{Signature}
use Rattle.ncq_signature.specs.Signatures.{signature_of, DifferInConstant}
use Rattle.ncq_signature.proofs.SignatureCases.{signature_scan, signature_equal, signature_range, signature_join}

-- signatures by the variants of the two expressions
between : {x y s t : Signature} → x ≡ s → y ≡ t → x ≡ y → s ≡ t
between a b h = sym a ∙ h ∙ b

abbrev Agrees : Expr → Expr → Type 0
Agrees one other = signature_of one ≡ signature_of other → DifferInConstant one other

of_scan : (source : List ℕ) (shape : Shape) (other : Expr) → Agrees (Scan source shape) other
of_scan source shape = expr_cases (Agrees (Scan source shape))
    (λ source' shape' h.
    let k = between (signature_scan source shape) (signature_scan source' shape') h in
    let a : source ≡ source' = cc in
    let b : shape ≡ shape' = cc in
    inl (λ i. Scan (a i) (b i)))
    (λ input slot constant h. let k = between (signature_scan source shape) (signature_equal input slot constant) h in cc)
    (λ input slot interval h. let k = between (signature_scan source shape) (signature_range input slot interval) h in cc)
    (λ left right pairs h. let k = between (signature_scan source shape) (signature_join left right pairs) h in cc)

of_equal : (input : Expr) (slot : ℕ) (constant : Atom) (other : Expr) → Agrees (EqSel input slot constant) other
of_equal input slot constant = expr_cases (Agrees (EqSel input slot constant))
    (λ source shape h. let k = between (signature_equal input slot constant) (signature_scan source shape) h in cc)
    (λ input' slot' constant' h.
    let k = between (signature_equal input slot constant) (signature_equal input' slot' constant') h in
    let a : input' ≡ input = cc in
    let b : slot' ≡ slot = cc in
    inr (inl (record { input = input; slot = slot; constant = constant; constant' = constant'; is = refl; is' = λ i. EqSel (a i) (b i) constant' })))
    (λ input' slot' interval h. let k = between (signature_equal input slot constant) (signature_range input' slot' interval) h in cc)
    (λ left right pairs h. let k = between (signature_equal input slot constant) (signature_join left right pairs) h in cc)

of_range : (input : Expr) (slot : ℕ) (interval : Interval) (other : Expr) → Agrees (RangeSel input slot interval) other
of_range input slot interval = expr_cases (Agrees (RangeSel input slot interval))
    (λ source shape h. let k = between (signature_range input slot interval) (signature_scan source shape) h in cc)
    (λ input' slot' constant h. let k = between (signature_range input slot interval) (signature_equal input' slot' constant) h in cc)
    (λ input' slot' interval' h.
    let k = between (signature_range input slot interval) (signature_range input' slot' interval') h in
    let a : input' ≡ input = cc in
    let b : slot' ≡ slot = cc in
    inr (inr (record { input = input; slot = slot; interval = interval; interval' = interval'; is = refl; is' = λ i. RangeSel (a i) (b i) interval' })))
    (λ left right pairs h. let k = between (signature_range input slot interval) (signature_join left right pairs) h in cc)

of_join : (left right : Expr) (pairs : List Pair) (other : Expr) → Agrees (Join left right pairs) other
of_join left right pairs = expr_cases (Agrees (Join left right pairs))
    (λ source shape h. let k = between (signature_join left right pairs) (signature_scan source shape) h in cc)
    (λ input slot constant h. let k = between (signature_join left right pairs) (signature_equal input slot constant) h in cc)
    (λ input slot interval h. let k = between (signature_join left right pairs) (signature_range input slot interval) h in cc)
    (λ left' right' pairs' h.
    let k = between (signature_join left right pairs) (signature_join left' right' pairs') h in
    let a : left ≡ left' = cc in
    let b : right ≡ right' = cc in
    let c : pairs ≡ pairs' = cc in
    inl (λ i. Join (a i) (b i) (c i)))

pub differs : (one other : Expr) → Agrees one other
differs = expr_cases (λ one. (other : Expr) → Agrees one other) of_scan of_equal of_range of_join

pub agrees : (one other : Expr) → DifferInConstant one other → signature_of one ≡ signature_of other
agrees one other (inl e) = ap signature_of e
agrees one other (inr (inl r)) = ap signature_of r.is ∙ signature_equal r.input r.slot r.constant ∙ sym (signature_equal r.input r.slot r.constant') ∙ sym (ap signature_of r.is')
agrees one other (inr (inr r)) = ap signature_of r.is ∙ signature_range r.input r.slot r.interval ∙ sym (signature_range r.input r.slot r.interval') ∙ sym (ap signature_of r.is')
