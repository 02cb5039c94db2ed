-- Lists of expressions: what stands in one, and lists in which none stands twice.
use Rattle.std.specs.Prelude.{◌≡◌, ◌⊎◌, Bool, List, [], ◌∷◌}
use Rattle.ncq_base.specs.Exact.{exact}
use Rattle.ncq_plan.specs.contracts.expr.Expr.{the_row as expr_row}
use Rattle.ncq_plan.specs.declared.expr.Expr.{Expr}

-- whether two expressions are one
abbrev pub is_expr : Expr → Expr → Bool
is_expr = exact expr_row.coded

-- the expression stands in the list
abbrev pub IsIn : Expr → List Expr → Type 0
IsIn expr [] = ⊥
IsIn expr (other ∷ list) = (expr ≡ other) ⊎ IsIn expr list

-- no expression stands twice in the list
abbrev pub AreApart : List Expr → Type 0
AreApart [] = Unit {0}
AreApart (expr ∷ list) = (IsIn expr list → ⊥) × AreApart list
