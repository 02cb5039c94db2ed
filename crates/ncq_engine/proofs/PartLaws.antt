-- The parts of expressions as a list, lists in which each expression stands once, and the plans of
-- the live subscriptions.
use Rattle.std.proofs.Common.{◌≡◌, true, false, List, [], ◌∷◌, length, map, inl, inr, refl, sym, ◌∙◌, subst}
use Rattle.std.specs.Prelude.{◌↔◌, if◌then◌else◌}
use Rattle.std.specs.List.{flat_map, list_any}
use Rattle.std.proofs.lemmas.Bool.{false≢true}
use Rattle.ncq_base.proofs.CountLaws.{counts-length}
use Rattle.ncq_book.specs.declared.subscription.Subscription.{Subscription as Kept}
use Rattle.ncq_callback.specs.Labels.{Handed}
use Rattle.ncq_live.specs.LiveTables.{plan_in}
use Rattle.ncq_plan.specs.declared.expr.Expr.{Expr}
use Rattle.ncq_plan.specs.declared.expr.Expr.TheVariants.{Scan, EqSel, RangeSel, Join}
use Rattle.ncq_plan.specs.ExprLists.{AreApart, IsIn, is_expr}
use Rattle.ncq_plan.proofs.ExprCases.{expr_cases, expr_induction, para_scan, para_equal, para_range, para_join}
use Rattle.ncq_plan.proofs.ExprListLaws.{any_in, in_any, in_behind, in_either, in_front}
use Rattle.ncq_report.specs.Lines.{AreTheSame}
use Rattle.ncq_report.proofs.GroupLaws.{same_exprs}
use Rattle.ncq_shelf.specs.Parts.{IsInput, IsPart, IsPartOfOne}
use Rattle.ncq_shelf.specs.Parts.IsPart.{itself, within}
use Rattle.ncq_shelf.proofs.CallerLemmas.{no_input-scan, input_of-equal, equal-input_of, input_of-range, range-input_of, input_of-join, left-input_of, right-input_of}
use Rattle.ncq_engine.specs.Engines.{Pairwise}
use Rattle.ncq_engine.specs.History.{History, Subscription}
use Rattle.ncq_engine.specs.Languages.{language_of}
use Rattle.ncq_engine.specs.Notices.{Language}
use Rattle.ncq_engine.specs.Plannings.{live_plans, plan_at}
use Rattle.ncq_engine.specs.Reports.{closure, distinct, parts, parts_step, with_expr}
use Rattle.ncq_engine.specs.Stands.{Keeps}
use Rattle.ncq_engine.proofs.PlanningLaws.{plan_is}

-- an expression is the first of its parts
first_part : (whole : Expr) → IsIn whole (parts whole)
first_part = expr_cases (λ e. IsIn e (parts e))
    (λ source shape. subst (IsIn (Scan source shape)) (sym (para_scan parts_step source shape)) (inl refl))
    (λ input slot constant. subst (IsIn (EqSel input slot constant)) (sym (para_equal parts_step input slot constant)) (inl refl))
    (λ input slot interval. subst (IsIn (RangeSel input slot interval)) (sym (para_range parts_step input slot interval)) (inl refl))
    (λ left right pairs. subst (IsIn (Join left right pairs)) (sym (para_join parts_step left right pairs)) (inl refl))

-- the parts of an input are behind it
input_parts : (whole part input : Expr) → IsInput input whole → IsIn part (parts input) → IsIn part (parts whole)
input_parts = expr_cases (λ whole. (part input : Expr) → IsInput input whole → IsIn part (parts input) → IsIn part (parts whole))
    (λ source shape part i is there. absurd (no_input-scan i source shape is))
    (λ input slot constant part i is there.
    subst (IsIn part) (sym (para_equal parts_step input slot constant)) (inr (subst (λ e. IsIn part (parts e)) (input_of-equal i input slot constant is) there)))
    (λ input slot interval part i is there.
    subst (IsIn part) (sym (para_range parts_step input slot interval)) (inr (subst (λ e. IsIn part (parts e)) (input_of-range i input slot interval is) there)))
    (λ left right pairs part i is there. subst (IsIn part) (sym (para_join parts_step left right pairs)) (inr (elim (input_of-join i left right pairs is) [
      | inl same ↦ in_front part (parts left) (parts right) (subst (λ e. IsIn part (parts e)) same there)
      | inr same ↦ in_behind part (parts left) (parts right) (subst (λ e. IsIn part (parts e)) same there)
    ])))

part_in : {part whole : Expr} → IsPart part whole → IsIn part (parts whole)
part_in {part} itself = first_part part
part_in {part} (within {whole = whole} {input = input} i p) = input_parts whole part input i (part_in p)

-- the list has the parts
part_is_in : (part whole : Expr) → IsPart part whole → IsIn part (parts whole)
part_is_in part whole p = part_in p

is_itself : (part whole : Expr) → part ≡ whole → IsPart part whole
is_itself part whole same = subst (IsPart part) same itself

-- and no other
in_part : (whole part : Expr) → IsIn part (parts whole) → IsPart part whole
in_part = expr_induction (λ whole. (part : Expr) → IsIn part (parts whole) → IsPart part whole)
    (λ source shape part is. elim (subst (IsIn part) (para_scan parts_step source shape) is) [
      | inl same ↦ is_itself part (Scan source shape) same
      | inr none ↦ absurd none
    ])
    (λ input slot constant below part is. elim (subst (IsIn part) (para_equal parts_step input slot constant) is) [
      | inl same ↦ is_itself part (EqSel input slot constant) same
      | inr there ↦ within (equal-input_of input slot constant) (below part there)
    ])
    (λ input slot interval below part is. elim (subst (IsIn part) (para_range parts_step input slot interval) is) [
      | inl same ↦ is_itself part (RangeSel input slot interval) same
      | inr there ↦ within (range-input_of input slot interval) (below part there)
    ])
    (λ left right pairs below_left below_right part is. elim (subst (IsIn part) (para_join parts_step left right pairs) is) [
      | inl same ↦ is_itself part (Join left right pairs) same
      | inr there ↦ elim (in_either part (parts left) (parts right) there) [
        | inl here ↦ within (left-input_of left right pairs) (below_left part here)
        | inr here ↦ within (right-input_of left right pairs) (below_right part here)
      ]
    ])

in_is_part : (part whole : Expr) → IsIn part (parts whole) → IsPart part whole
in_is_part part whole is = in_part whole part is

in_with : (e expr : Expr) (list : List Expr) → IsIn e (expr ∷ list) → IsIn e (with_expr expr list)
in_with e expr list is = elim (list_any (is_expr expr) list) as (λ t. list_any (is_expr expr) list ≡ t → IsIn e (if t then list else expr ∷ list)) [
  | true ↦ λ some. elim is [
    | inl same ↦ subst (λ x. IsIn x list) (sym same) (in_any expr list some)
    | inr more ↦ more
  ]
  | false ↦ λ none. is
] refl

with_in : (e expr : Expr) (list : List Expr) → IsIn e (with_expr expr list) → IsIn e (expr ∷ list)
with_in e expr list = elim (list_any (is_expr expr) list) as (λ t. IsIn e (if t then list else expr ∷ list) → IsIn e (expr ∷ list)) [
  | true ↦ λ is. inr is
  | false ↦ λ is. is
]

with_apart : (expr : Expr) (list : List Expr) → AreApart list → AreApart (with_expr expr list)
with_apart expr list apart = elim (list_any (is_expr expr) list) as (λ t. list_any (is_expr expr) list ≡ t → AreApart (if t then list else expr ∷ list)) [
  | true ↦ λ some. apart
  | false ↦ λ none. (λ is. false≢true (sym none ∙ any_in expr list is), apart)
] refl

-- the expressions of a list, each once, are those of the list
in_distinct : (e : Expr) (list : List Expr) → IsIn e list → IsIn e (distinct list)
in_distinct e [] is = is
in_distinct e (x ∷ list) (inl same) = in_with e x (distinct list) (inl same)
in_distinct e (x ∷ list) (inr more) = in_with e x (distinct list) (inr (in_distinct e list more))

distinct_in : (e : Expr) (list : List Expr) → IsIn e (distinct list) → IsIn e list
distinct_in e [] is = is
distinct_in e (x ∷ list) is = elim (with_in e x (distinct list) is) [
  | inl same ↦ inl same
  | inr more ↦ inr (distinct_in e list more)
]

distinct_apart : (list : List Expr) → AreApart (distinct list)
distinct_apart [] = tt
distinct_apart (x ∷ list) = with_apart x (distinct list) (distinct_apart list)

-- lists of the same expressions, each once, are of one length
pub same_length : (some others : List Expr) → AreTheSame some others → length some ≡ length others
same_length some others same = counts-length some others (same_exprs some others same)

-- the parts of expressions, one behind the other
parts_of_one : (e : Expr) (wholes : List Expr) → IsPartOfOne e wholes → IsIn e (flat_map parts wholes)
parts_of_one e [] one = absurd one
parts_of_one e (whole ∷ wholes) (inl part) = in_front e (parts whole) (flat_map parts wholes) (part_is_in e whole part)
parts_of_one e (whole ∷ wholes) (inr others) = in_behind e (parts whole) (flat_map parts wholes) (parts_of_one e wholes others)

one_of_parts : (e : Expr) (wholes : List Expr) → IsIn e (flat_map parts wholes) → IsPartOfOne e wholes
one_of_parts e [] is = absurd is
one_of_parts e (whole ∷ wholes) is = elim (in_either e (parts whole) (flat_map parts wholes) is) [
  | inl here ↦ inl (in_is_part e whole here)
  | inr behind ↦ inr (one_of_parts e wholes behind)
]

-- an expression stands in the closure exactly where it is a part of a live plan
pub in_closure : (language : Language) (h : History) (e : Expr) → IsIn e (closure language h) ↔ IsPartOfOne e (live_plans language h)
in_closure language h e =
    let plans = live_plans language h in (
      λ is. one_of_parts e plans (distinct_in e (flat_map parts plans) is),
      λ one. in_distinct e (flat_map parts plans) (parts_of_one e plans one),
    )

pub apart_closure : (language : Language) (h : History) → AreApart (closure language h)
apart_closure language h = distinct_apart (flat_map parts (live_plans language h))

-- the plans of what is kept of the subscriptions are the plans of the subscriptions
pub plans_are : (handed : Handed) (h : History) (subs : List Subscription) (ms : List Kept) → Pairwise (Keeps handed h) subs ms
    → map plan_in ms ≡ map (plan_at (language_of handed) h) subs
plans_are handed h [] [] p = refl
plans_are handed h [] (m ∷ ms) p = absurd p
plans_are handed h (s ∷ subs) [] p = absurd p
plans_are handed h (s ∷ subs) (m ∷ ms) p = λ i. plan_is handed h s m p.0 i ∷ plans_are handed h subs ms p.1 i
