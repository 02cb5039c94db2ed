-- What crates above use of lists of expressions.
use Rattle.std.proofs.Common.{◌≡◌, ◌≢◌, ℕ, ◌+◌, true, false, ◌||◌, List, [], ◌∷◌, ◌++◌, ◌⊎◌, inl, inr, refl, sym, ◌∙◌, ap, subst, arith}
use Rattle.std.specs.List.{list_any}
use Rattle.std.proofs.lemmas.Bool.{or_left, or_right, false≢true}
use Rattle.ncq_base.specs.Counts.{total_by}
use Rattle.ncq_base.specs.Exact.{exact_is, exact_itself}
use Rattle.ncq_plan.specs.contracts.expr.Expr.{the_row as expr_row}
use Rattle.ncq_plan.specs.declared.expr.Expr.{Expr}
use Rattle.ncq_plan.specs.ExprLists.{IsIn, is_expr}

-- what stands in one of two lists stands in both together
pub in_front : (e : Expr) (some others : List Expr) → IsIn e some → IsIn e (some ++ others)
in_front e [] others is = absurd is
in_front e (x ∷ some) others (inl same) = inl same
in_front e (x ∷ some) others (inr more) = inr (in_front e some others more)

pub in_behind : (e : Expr) (some others : List Expr) → IsIn e others → IsIn e (some ++ others)
in_behind e [] others is = is
in_behind e (x ∷ some) others is = inr (in_behind e some others is)

pub in_either : (e : Expr) (some others : List Expr) → IsIn e (some ++ others) → IsIn e some ⊎ IsIn e others
in_either e [] others is = inr is
in_either e (x ∷ some) others (inl same) = inl (inl same)
in_either e (x ∷ some) others (inr more) = elim (in_either e some others more) [
  | inl here ↦ inl (inr here)
  | inr there ↦ inr there
]

-- the test of a list finds what stands in it
pub any_in : (e : Expr) (list : List Expr) → IsIn e list → list_any (is_expr e) list ≡ true
any_in e [] is = absurd is
any_in e (x ∷ list) (inl same) = or_left _ _ (subst (λ y. is_expr e y ≡ true) same (exact_itself expr_row.coded e))
any_in e (x ∷ list) (inr more) = or_right (is_expr e x) _ (any_in e list more)

pub in_any : (e : Expr) (list : List Expr) → list_any (is_expr e) list ≡ true → IsIn e list
in_any e [] some = absurd (false≢true some)
in_any e (x ∷ list) some = elim (is_expr e x) as (λ t. is_expr e x ≡ t → (t || list_any (is_expr e) list) ≡ true → IsIn e (x ∷ list)) [
  | true ↦ λ same some. inl (exact_is expr_row.coded e x same)
  | false ↦ λ differs some. inr (in_any e list some)
] refl some

-- the list without the first of the expression's places weighs that less, and has all others
pub without_one : (f : Expr → ℕ) (expr : Expr) (list : List Expr) → IsIn expr list
    → (rest : List Expr) × (total_by f list ≡ f expr + total_by f rest) × ((other : Expr) → IsIn other list → expr ≢ other → IsIn other rest)
without_one f expr [] is = absurd is
without_one f expr (e ∷ list) is = elim is [
  | inl same ↦ (
    list,
    ap (λ x. f x + total_by f list) (sym same),
    λ other is differs. elim is [
      | inl e_is ↦ absurd (differs (same ∙ sym e_is))
      | inr in_list ↦ in_list
    ],
  )
  | inr in_list ↦
      let below = without_one f expr list in_list in (
        e ∷ below.0,
        (let h = below.1 in omega arith),
        λ other is differs. elim is [
          | inl here ↦ inl here
          | inr behind ↦ inr (below.2 other behind differs)
        ],
      )
]
