-- The bare plan of arms, from the last arm inwards.
use Rattle.std.proofs.Common.{◌≡◌, ℕ, ◌+◌, ◌-◌, ◌<◌, ◌≤◌, List, [], ◌∷◌, ◌++◌, length, map, take, get_or, refl, sym, ◌∙◌, ap, arith, length-take}
use Rattle.std.proofs.lemmas.List.{take_more, map-append}
use Rattle.ncq_row.specs.declared.pair.Pair.{Pair}
use Rattle.ncq_row.specs.declared.shape.Shape.{Shape}
use Rattle.ncq_plan.specs.declared.expr.Expr.{Expr}
use Rattle.ncq_plan.specs.declared.expr.Expr.TheVariants.{Scan, Join, rolls-Scan, rolls-Join}
use Rattle.ncq_plan.specs.declared.expr.Expr.TheOpen.{Expr-F}
use Rattle.ncq_plan.specs.declared.expr.Expr.TheOpen.Expr-F.{Scan as ScanLayer, Join as JoinLayer}
use Rattle.ncq_plan.specs.declared.expr.Expr.TheViews.{out-Expr, out-roll-Expr}
use Rattle.ncq_plan.specs.declared.query.Arm.{Arm}
use Rattle.ncq_plan.specs.Late.{bare_arm}
use Rattle.ncq_plan.specs.Plans.{arm_plan, arms_plan, with_arms}

-- equal scans and equal joins have the same parts

out-Scan : (source : List ℕ) (shape : Shape) → out-Expr (Scan source shape) ≡ ScanLayer source shape
out-Scan source shape = ap out-Expr (sym (rolls-Scan source shape)) ∙ out-roll-Expr (ScanLayer source shape)

out-Join : (left right : Expr) (pairs : List Pair) → out-Expr (Join left right pairs) ≡ JoinLayer left right pairs
out-Join left right pairs = ap out-Expr (sym (rolls-Join left right pairs)) ∙ out-roll-Expr (JoinLayer left right pairs)

shape_of_layer : (source source' : List ℕ) (shape shape' : Shape) → ◌≡◌ {A = Expr-F Expr} (ScanLayer source shape) (ScanLayer source' shape') → shape ≡ shape'
shape_of_layer source source' shape shape' e = cc

sides_of_layer : (left right left' right' : Expr) (pairs pairs' : List Pair) → ◌≡◌ {A = Expr-F Expr} (JoinLayer left right pairs) (JoinLayer left' right' pairs') → (left ≡ left') × (right ≡ right')
sides_of_layer left right left' right' pairs pairs' e = (cc, cc)

pub same_shapes : (source source' : List ℕ) (shape shape' : Shape) → Scan source shape ≡ Scan source' shape' → shape ≡ shape'
same_shapes source source' shape shape' e =
    shape_of_layer source source' shape shape' (sym (out-Scan source shape) ∙ ap out-Expr e ∙ out-Scan source' shape')

pub same_sides : (left right left' right' : Expr) (pairs pairs' : List Pair) → Join left right pairs ≡ Join left' right' pairs' → (left ≡ left') × (right ≡ right')
same_sides left right left' right' pairs pairs' e =
    sides_of_layer left right left' right' pairs pairs' (sym (out-Join left right pairs) ∙ ap out-Expr e ∙ out-Join left' right' pairs')

-- the bare plan of arms
abbrev pub bare_plan : List Arm → Expr
bare_plan arms = arms_plan (map bare_arm arms)

-- the last arm is on the right of the outermost join
with_last : (plan : Expr) (arms : List Arm) (arm : Arm) → with_arms plan (arms ++ arm ∷ []) ≡ Join (with_arms plan arms) (arm_plan arm) arm.pairs
with_last plan [] arm = refl
with_last plan (first ∷ arms) arm = with_last (Join plan (arm_plan first) first.pairs) arms arm

plan_last : (arms : List Arm) (arm : Arm) → 1 ≤ length arms → bare_plan (arms ++ arm ∷ []) ≡ Join (bare_plan arms) (arm_plan (bare_arm arm)) arm.pairs
plan_last [] arm some = absurd (omega arith)
plan_last (first ∷ arms) arm some =
    ap (with_arms (arm_plan (bare_arm first))) (map-append bare_arm arms (arm ∷ []))
    ∙ with_last (arm_plan (bare_arm first)) (map bare_arm arms) (bare_arm arm)

module _ (arms : List Arm) (at : ℕ) (arm : Arm) (some : 1 ≤ at) (here : at < length arms) (is : arm ≡ get_or arms at arm) where
  pub bare_last : bare_plan (take (at + 1) arms) ≡ Join (bare_plan (take at arms)) (arm_plan (bare_arm arm)) arm.pairs
  bare_last =
      ap bare_plan (take_more arms at arm here ∙ ap (λ (a : Arm). take at arms ++ a ∷ []) (sym is))
      ∙ plan_last (take at arms) arm (simp length-take (omega arith))

-- what stands on both sides of the outermost join of the first arms
pub outermost : (arms : List Arm) (at : ℕ) (arm : Arm) (rest left right : Expr) (pairs : List Pair)
    → 1 < at → at ≤ length arms → arm ≡ get_or arms (at - 1) arm → rest ≡ bare_plan (take at arms) → rest ≡ Join left right pairs
    → (left ≡ bare_plan (take (at - 1) arms)) × (right ≡ arm_plan (bare_arm arm))
outermost arms at arm rest left right pairs further within is of_arms joined =
    let back : at - 1 + 1 ≡ at = omega arith in
    let last = bare_last arms (at - 1) arm (omega arith) (omega arith) is in
    same_sides left right (bare_plan (take (at - 1) arms)) (arm_plan (bare_arm arm)) pairs arm.pairs
    (sym joined ∙ of_arms ∙ sym (ap (λ n. bare_plan (take n arms)) back) ∙ last)
