-- Counts as contracts see them. Only the crate's private clauses cite what is said of pairs.
use Rattle.std.specs.Prelude.{ℕ, ◌≢◌, List, Some, refl}
use Rattle.std.specs.Coded.{Coded, code_by, coded×, coded_ℕ, coded_list}
use Rattle.std.specs.FinMap.{code}
use Rattle.std.specs.Map.{lookup}
use Rattle.std.specs.Str.{bytes_eq}
use Rattle.ncq_base.specs.Keys.{ByBytes}

-- how often byte strings stand, and how many more need no memory
pub record CountState : Type 0 where
  pub counts : ByBytes ℕ
  pub spare : ℕ

-- how they are written as a value
abbrev pub count_code : Coded CountState
count_code = code_by (ByBytes ℕ × ℕ) (coded× (code (coded_list coded_ℕ) coded_ℕ) coded_ℕ)
    (λ c. (c.counts, c.spare))
    (λ p. record { counts = p.0; spare = p.1 }) (λ _. refl)

-- no count is 0
abbrev pub IsPositive : List (List ℕ × ℕ) → Type 0
IsPositive pairs = (key : List ℕ) → lookup (bytes_eq key) pairs ≢ Some 0
