-- Numbers that fall. Only the crate's private clauses cite them.
use Rattle.std.specs.Prelude.{ℕ, ◌<◌, List, [], ◌∷◌}

-- each number is below the one before, and the first is below the bound
abbrev pub AreFalling : ℕ → List ℕ → Type 0
AreFalling bound [] = Unit {0}
AreFalling bound (number ∷ numbers) = (number < bound) × AreFalling number numbers
