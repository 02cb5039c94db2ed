-- Taking bytes off the front of a text. Only the crate's private clauses cite it.
use Rattle.std.specs.Prelude.{◌≡◌, ℕ, Bool, true, List, ◌++◌, Option, MatchOption}
use Rattle.std.specs.Borrow.{Bor}

-- the bytes are allowed, and the text is these bytes and the rest
pub record Leaves (allowed : Bool) (bytes text rest : List ℕ) : Type 0 where
  pub is_allowed : allowed ≡ true
  pub front : text ≡ bytes ++ rest

-- no rest is left: the bytes are not allowed, or the text does not begin with them
abbrev pub LeavesNone : Bool → List ℕ → List ℕ → Type 0
LeavesNone allowed bytes text = (rest : List ℕ) → Leaves allowed bytes text rest → ⊥

-- what was found is the rest behind the bytes, or that none is left
abbrev pub IsRest : Option (Bor (List ℕ)) → Bool → List ℕ → List ℕ → Type 0
IsRest found allowed bytes text = MatchOption found (LeavesNone allowed bytes text)
    (λ rest. Leaves allowed bytes text rest.now)
