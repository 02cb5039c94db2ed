-- Where a token is a name, it is one of a statement.
use Rattle.std.proofs.Common.{◌≡◌, ℕ, suc, ◌+◌, Bool, true, false, cond, List, [], ◌∷◌, take, Option, Some, None, Ok, refl, sym, ap, ◌∙◌, arith}
use Rattle.std.specs.Prelude.{◌&&◌, ◌||◌, ◌==◌, nat_lt, option_map, length, ◌-◌}
use Rattle.std.specs.List.{list_all, prefix_len}
use Rattle.ncq_base.specs.Names.{is_name_start, is_name_byte}
use Rattle.ncq_token.specs.declared.token.Token.{Token}
use Rattle.ncq_token.specs.declared.token.Token.TheVariants.{Name, Quoted}
use Rattle.ncq_token.specs.Bytes.{starts_with, variable_len, word_len, quoted_at}
use Rattle.ncq_token.specs.Tokens.{Found, starts_name, less_at, variable_at, text_at, word_at, name_at, outside_at, inside_at, token_at, tokens_of}
use Rattle.ncq_token.specs.TokenNames.{is_well_named}
use Rattle.ncq_token.specs.Law.{AreTokens}
use Rattle.ncq_token.proofs.TokenLaws.{tokens_sound}

list_all-prefix : (p : ℕ → Bool) (xs : List ℕ) → list_all p (take (prefix_len p xs) xs) ≡ true
list_all-prefix p [] = refl
list_all-prefix p (x ∷ xs) = split (p x) refl (list_all-prefix p xs)
  where
    split : (b : Bool) → p x ≡ b → list_all p (take (prefix_len p xs) xs) ≡ true → list_all p (take (prefix_len p (x ∷ xs)) (x ∷ xs)) ≡ true
    split true e more = let one : 1 + prefix_len p xs ≡ suc (prefix_len p xs) = omega arith in rw (e, one, e) more
    split false e more = rw e refl

-- what was found, if a token was found, is well named
abbrev found_well : Found → Bool
found_well None = true
found_well (Some found) = is_well_named found.0

either_well : (b : Bool) (x y : Found) → found_well x ≡ true → found_well y ≡ true → found_well (cond b x y) ≡ true
either_well true x y hx hy = hx
either_well false x y hx hy = hy

name_found : (b k : ℕ) (bytes : List ℕ) → is_name_start b ≡ true → list_all is_name_byte (take k bytes) ≡ true → found_well (cond (nat_lt 0 (1 + k)) (Some (Name (take (1 + k) (b ∷ bytes)), 1 + k)) None) ≡ true
name_found b k bytes start more =
    let one : 1 + k ≡ suc k = omega arith in
    rw one (either_well (nat_lt 0 (suc k)) (Some (Name (b ∷ take k bytes), suc k)) None (rw (start, more) refl) refl)

name_well : (bytes : List ℕ) → found_well (name_at bytes) ≡ true
name_well [] = refl
name_well (b ∷ bytes) = split (is_name_start b) refl
  where
    split : (s : Bool) → is_name_start b ≡ s → found_well (name_at (b ∷ bytes)) ≡ true
    split true e = rw e (name_found b (prefix_len is_name_byte bytes) bytes e (list_all-prefix is_name_byte bytes))
    split false e = rw e refl

variable_well : (bytes : List ℕ) → found_well (variable_at bytes) ≡ true
variable_well bytes = either_well (nat_lt 0 (variable_len bytes)) _ None refl refl

text_well : (bytes : List ℕ) → found_well (text_at bytes) ≡ true
text_well bytes = quoted (quoted_at bytes)
  where
    quoted : (q : Option (List ℕ × List ℕ)) → found_well (option_map (λ p. (Quoted p.0, 1 + (length bytes - length p.1))) q) ≡ true
    quoted None = refl
    quoted (Some p) = refl

word_well : (bytes : List ℕ) → found_well (word_at bytes) ≡ true
word_well bytes = either_well (nat_lt 0 (word_len bytes)) _ None refl refl

inside_well : (bytes : List ℕ) → found_well (inside_at bytes) ≡ true
unfolding inside_at
inside_well [] = refl
inside_well (b ∷ bytes) =
    either_well (b == 61) _ _ refl
    (either_well (b == 62) _ _ refl
    (either_well ((b == 47) && starts_with 62 bytes) _ _ refl
    (either_well (b == 46) _ _ refl
    (either_well (b == 124) _ _ refl
    (either_well (b == 42) _ _ refl
    (either_well (b == 43) _ _ refl
    (either_well (b == 40) _ _ refl
    (either_well (b == 41) _ _ refl
    (either_well (b == 36) _ _ (variable_well bytes)
    (either_well (b == 34) _ _ (text_well bytes) (name_well (b ∷ bytes))))))))))))

either_token : (b : Bool) (x y : Token × ℕ) → is_well_named x.0 ≡ true → is_well_named y.0 ≡ true → is_well_named (cond b x y).0 ≡ true
either_token true x y hx hy = hx
either_token false x y hx hy = hy

less_well : (bytes : List ℕ) → is_well_named (less_at bytes).0 ≡ true
less_well bytes =
    either_token (starts_with 47 bytes) _ _ refl
    (either_token (starts_with 61 bytes) _ _ refl (either_token (starts_name bytes || starts_with 40 bytes) _ _ refl refl))

outside_well : (bytes : List ℕ) → found_well (outside_at bytes) ≡ true
unfolding outside_at
outside_well [] = refl
outside_well (b ∷ bytes) =
    either_well (b == 60) _ _ (less_well bytes)
    (either_well (b == 62) _ _ (either_token (starts_with 61 bytes) _ _ refl refl)
    (either_well (b == 61) _ _ refl
    (either_well (b == 44) _ _ refl
    (either_well (b == 36) _ _ (variable_well bytes)
    (either_well (b == 34) _ _ (text_well bytes)
    (either_well ((b == 33) && starts_with 61 bytes) _ _ refl (word_well (b ∷ bytes))))))))

token_well : (inside : Bool) (bytes : List ℕ) → found_well (token_at inside bytes) ≡ true
unfolding token_at
token_well true bytes = inside_well bytes
token_well false bytes = outside_well bytes

well_named : {inside : Bool} {text : List ℕ} {tokens : List Token} → AreTokens inside text tokens → list_all is_well_named tokens ≡ true
well_named AreTokens.no_token = refl
well_named (AreTokens.white space more) = well_named more
well_named (AreTokens.token {inside = inside} {b = b} {rest = rest} dark found more) =
    rw (ap found_well (sym found) ∙ token_well inside (b ∷ rest)) (well_named more)

pub tokens_well_named : (text : List ℕ) (tokens : List Token) → tokens_of text ≡ Ok tokens → list_all is_well_named tokens ≡ true
tokens_well_named text tokens e = well_named (tokens_sound text tokens e)
