-- How many live queries have each bare plan.
use Rattle.std.specs.Prelude.{◌≡◌, ℕ, ◌<◌, ◌==◌, if◌then◌else◌, List, Option, Some, None}
use Rattle.std.specs.Map.{lookup}
use Rattle.std.specs.Option.{unwrap_or}
use Rattle.ncq_plan.specs.declared.expr.Expr.{Expr}
use Rattle.ncq_plan.specs.ExprLists.{is_expr}

-- bare plans, each once with its number, in no order that counts
abbrev pub Numbers : Type 0
Numbers = List (Expr × ℕ)

-- each number is above 0
abbrev pub AreSome : Numbers → Type 0
AreSome numbers = (bare : Expr) (n : ℕ) → lookup (is_expr bare) numbers ≡ Some n → 0 < n

-- how many live queries have the bare plan: the number of its entry, and 0 where it has none
abbrev pub live_with : Numbers → Expr → ℕ
live_with numbers bare = unwrap_or (lookup (is_expr bare) numbers) 0

-- a number stands where it is not 0
abbrev pub kept : ℕ → Option ℕ
kept n = if n == 0 then None else Some n

-- the bare plan has this number, with an entry where it is not 0; all others are as before
abbrev pub HasNow : Numbers → Expr → ℕ → Numbers → Type 0
HasNow old bare number new =
    (other : Expr) → lookup (is_expr other) new
    ≡ (if is_expr bare other then kept number else lookup (is_expr other) old)
