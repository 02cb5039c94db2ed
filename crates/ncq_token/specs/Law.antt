-- Which tokens a text has, and where it has none, said without the offsets that the code keeps.
use Rattle.std.specs.Prelude.{◌≡◌, ℕ, ◌+◌, ◌-◌, Bool, true, false, List, [], ◌∷◌, drop, Some, None}
use Rattle.ncq_token.specs.declared.token.Token.{Token}
use Rattle.ncq_base.specs.Names.{is_space}
use Rattle.ncq_token.specs.Tokens.{token_at, inside_after}

-- white space is skipped, and the longest token at the front is taken with its bytes
pub data AreTokens : Bool → List ℕ → List Token → Type 0 where
  no_token : {inside : Bool} → AreTokens inside [] []
  white : {inside : Bool} {b : ℕ} {rest : List ℕ} {tokens : List Token} → is_space b ≡ true
      → AreTokens inside rest tokens → AreTokens inside (b ∷ rest) tokens
  token : {inside : Bool} {b n : ℕ} {rest : List ℕ} {t : Token} {tokens : List Token}
      → is_space b ≡ false → token_at inside (b ∷ rest) ≡ Some (t, n)
      → AreTokens (inside_after inside t) (drop (n - 1) rest) tokens
      → AreTokens inside (b ∷ rest) (t ∷ tokens)

-- No token stands at the offset, behind the tokens before it. A token takes one byte and those
-- behind it that it needs.
pub data StopsAt : Bool → List ℕ → ℕ → Type 0 where
  stuck : {inside : Bool} {b : ℕ} {rest : List ℕ} → is_space b ≡ false
      → token_at inside (b ∷ rest) ≡ None → StopsAt inside (b ∷ rest) 0
  white : {inside : Bool} {b at : ℕ} {rest : List ℕ} → is_space b ≡ true → StopsAt inside rest at
      → StopsAt inside (b ∷ rest) (1 + at)
  token : {inside : Bool} {b n at : ℕ} {rest : List ℕ} {t : Token} → is_space b ≡ false
      → token_at inside (b ∷ rest) ≡ Some (t, n)
      → StopsAt (inside_after inside t) (drop (n - 1) rest) at
      → StopsAt inside (b ∷ rest) (1 + (n - 1) + at)
