-- Reading one after the other, as the loops do.
use Rattle.std.proofs.Common.{◌≡◌, ℕ, zero, suc, ◌+◌, ◌-◌, ◌≤◌, ◌<◌, Bool, true, false, cond, List, [], ◌∷◌, ◌++◌, length, drop, Option, Some, None, Ok, Err, refl, sym, ap, ◌∙◌, append_assoc, arith}
use Rattle.std.specs.Prelude.{option_map, ◌==◌, ◌&&◌, ◌||◌}
use Rattle.std.proofs.lemmas.List.{append-nil, length-drop}
use Rattle.ncq_token.specs.declared.token.Token.{Token}
use Rattle.ncq_base.specs.Names.{is_space}
use Rattle.ncq_token.specs.Bytes.{quoted_at, quoted_byte, with_byte}
use Rattle.ncq_token.specs.Tokens.{Read, with_front, token_at, tokens_from, inside_after}

-- bytes in front of a quoted text
abbrev pub with_value : List ℕ → Option (List ℕ × List ℕ) → Option (List ℕ × List ℕ)
with_value front found = option_map (λ p. (front ++ p.0, p.1)) found

value_more : (front : List ℕ) (b : ℕ) (found : Option (List ℕ × List ℕ)) → with_value front (with_byte b found) ≡ with_value (front ++ b ∷ []) found
value_more front b None = refl
value_more front b (Some p) = ap (λ (v : List ℕ). Some (v, p.1)) (sym (append_assoc front (b ∷ []) p.0))

module _ (b c : ℕ) (rest : List ℕ) where
  abbrev either : Bool → ℕ × List ℕ
  either t = cond t (c, rest) (b, c ∷ rest)

  chosen : (t : Bool) → cond t (with_byte c (quoted_at rest)) (with_byte b (quoted_at (c ∷ rest))) ≡ with_byte (either t).0 (quoted_at (either t).1)
  chosen true = refl
  chosen false = refl

quoted_step : (b : ℕ) (after : List ℕ) → (b == 34) ≡ false → quoted_at (b ∷ after) ≡ with_byte (quoted_byte b after).0 (quoted_at (quoted_byte b after).1)
unfolding quoted_at
quoted_step b [] e = rw e refl
quoted_step b (c ∷ rest) e = rw e (chosen b c rest ((b == 92) && ((c == 34) || (c == 92))))

pub quoted_goes_on : (front : List ℕ) (b : ℕ) (after : List ℕ) (whole : Option (List ℕ × List ℕ)) → (b == 34) ≡ false
    → with_value front (quoted_at (b ∷ after)) ≡ whole → with_value (front ++ (quoted_byte b after).0 ∷ []) (quoted_at (quoted_byte b after).1) ≡ whole
quoted_goes_on front b after whole e so_far = sym (value_more front (quoted_byte b after).0 (quoted_at (quoted_byte b after).1)) ∙ ap (with_value front) (sym (quoted_step b after e)) ∙ so_far

-- the rest of a token is passed over
pub skipped : (inside : Bool) (at skip : ℕ) (bytes : List ℕ) → tokens_from inside at skip bytes ≡ tokens_from inside (at + skip) 0 (drop skip bytes)
unfolding tokens_from
skipped inside at zero bytes = ap (λ (n : ℕ). tokens_from inside n 0 bytes) (omega arith)
skipped inside at (suc skip) [] = refl
skipped inside at (suc skip) (b ∷ bytes) = skipped inside (at + 1) skip bytes ∙ ap (λ (n : ℕ). tokens_from inside n 0 (drop skip bytes)) (omega arith)

pub quoted_ends : (front : List ℕ) (b : ℕ) (after : List ℕ) (whole : Option (List ℕ × List ℕ)) → (b == 34) ≡ true
    → with_value front (quoted_at (b ∷ after)) ≡ whole → whole ≡ Some (front, after)
unfolding quoted_at
quoted_ends front b [] whole e so_far = sym so_far ∙ rw e (ap (λ (v : List ℕ). Some (v, [])) (append-nil front))
quoted_ends front b (c ∷ rest) whole e so_far = sym so_far ∙ rw e (ap (λ (v : List ℕ). Some (v, c ∷ rest)) (append-nil front))

pub quoted_stops : (front rest : List ℕ) (whole : Option (List ℕ × List ℕ)) → length rest ≡ 0 → with_value front (quoted_at rest) ≡ whole → whole ≡ None
unfolding quoted_at
quoted_stops front [] whole e so_far = sym so_far
quoted_stops front (b ∷ rest) whole e so_far = absurd (omega (arith, e))

front_more : (front : List Token) (t : Token) (read : Read) → with_front front (with_front (t ∷ []) read) ≡ with_front (front ++ t ∷ []) read
front_more front t (Err at) = refl
front_more front t (Ok tokens) = ap (λ (ts : List Token). Ok ts) (sym (append_assoc front (t ∷ []) tokens))

module _ (front : List Token) (inside : Bool) (text : List ℕ) (b : ℕ) (after : List ℕ) (whole : Read) (room : length (b ∷ after) ≤ length text) where
  abbrev so_far : Type 0
  so_far = with_front front (tokens_from inside (length text - length (b ∷ after)) 0 (b ∷ after)) ≡ whole

  moved : (length text - length (b ∷ after)) + 1 ≡ length text - length after
  moved = omega (arith, room)

  pub white_goes_on : is_space b ≡ true → so_far → with_front front (tokens_from inside (length text - length after) 0 after) ≡ whole
  unfolding tokens_from
  white_goes_on e s =
      let one : with_front front (tokens_from inside (length text - length (b ∷ after)) 0 (b ∷ after)) ≡ with_front front (tokens_from inside ((length text - length (b ∷ after)) + 1) 0 after) = rw e refl in
      sym (one ∙ ap (λ (n : ℕ). with_front front (tokens_from inside n 0 after)) moved) ∙ s

  pub stuck : is_space b ≡ false → token_at inside (b ∷ after) ≡ None → so_far → whole ≡ Err (length text - length (b ∷ after))
  unfolding tokens_from
  stuck e none s = sym s ∙ rw (e, none) refl

  pub token_goes_on : (t : Token) (n : ℕ) → is_space b ≡ false → token_at inside (b ∷ after) ≡ Some (t, n) → 0 < n → n ≤ length (b ∷ after) → so_far
      → with_front (front ++ t ∷ []) (tokens_from (inside_after inside t) (length text - length (drop n (b ∷ after))) 0 (drop n (b ∷ after))) ≡ whole
  unfolding tokens_from
  token_goes_on t zero e found some within s = absurd (omega (arith, some))
  token_goes_on t (suc m) e found some within s =
      let place : ((length text - length (b ∷ after)) + 1) + m ≡ length text - length (drop m after) = omega (arith, room, within, length-drop m after) in
      let less : suc m - 1 ≡ m = omega arith in
      let one : with_front front (tokens_from inside (length text - length (b ∷ after)) 0 (b ∷ after)) ≡ with_front front (with_front (t ∷ []) (tokens_from (inside_after inside t) ((length text - length (b ∷ after)) + 1) (suc m - 1) after)) = rw (e, found) refl in
      let two : with_front front (tokens_from inside (length text - length (b ∷ after)) 0 (b ∷ after)) ≡ with_front front (with_front (t ∷ []) (tokens_from (inside_after inside t) ((length text - length (b ∷ after)) + 1) m after)) = one ∙ ap (λ (k : ℕ). with_front front (with_front (t ∷ []) (tokens_from (inside_after inside t) ((length text - length (b ∷ after)) + 1) k after))) less in
      sym (front_more front t (tokens_from (inside_after inside t) ((length text - length (b ∷ after)) + 1) m after)
      ∙ ap (λ (r : Read). with_front (front ++ t ∷ []) r) (skipped (inside_after inside t) ((length text - length (b ∷ after)) + 1) m after
      ∙ ap (λ (n : ℕ). tokens_from (inside_after inside t) n 0 (drop m after)) place)) ∙ sym two ∙ s

pub tokens_end : (front : List Token) (inside : Bool) (at : ℕ) (rest : List ℕ) (whole : Read) → length rest ≡ 0 → with_front front (tokens_from inside at 0 rest) ≡ whole → whole ≡ Ok front
unfolding tokens_from
tokens_end front inside at [] whole e so_far = sym so_far ∙ ap (λ (ts : List Token). Ok ts) (append-nil front)
tokens_end front inside at (b ∷ rest) whole e so_far = absurd (omega (arith, e))
