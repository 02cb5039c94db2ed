-- The tokens that are read are the tokens of the text.
use Rattle.std.proofs.Common.{◌≡◌, ℕ, zero, suc, ◌+◌, ◌-◌, Bool, true, false, cond, List, [], ◌∷◌, drop, Option, Some, None, Ok, Err, refl, sym, ap, subst, ◌∙◌, arith}
use Rattle.ncq_token.specs.declared.token.Token.{Token}
use Rattle.ncq_base.specs.Names.{is_space}
use Rattle.ncq_token.specs.Tokens.{Read, with_front, token_at, tokens_from, tokens_of, inside_after}
use Rattle.ncq_token.specs.Law.{AreTokens, StopsAt}
use Rattle.ncq_token.proofs.Reading.{skipped}

abbrev done : List Token → Read
done ts = Ok ts

ok_is : (x y : List Token) → done x ≡ done y → x ≡ y
ok_is x y e = cc

-- one token, and those behind it
abbrev then : Bool → ℕ → List ℕ → Option (Token × ℕ) → Read
then inside at rest None = Err at
then inside at rest (Some found) = with_front (found.0 ∷ []) (tokens_from (inside_after inside found.0) (at + 1) (found.1 - 1) rest)

front_is : (t : Token) (read : Read) (ts : List Token) → with_front (t ∷ []) read ≡ Ok ts → (more : List Token) × (read ≡ Ok more) × (ts ≡ t ∷ more)
front_is t (Ok more) ts e = (more, refl, cc)
front_is t (Err at) ts e = absurd cc

then_sound : (inside : Bool) (at b : ℕ) (rest : List ℕ) → is_space b ≡ false
    → ((into : Bool) (at skip : ℕ) (ts : List Token) → tokens_from into at skip rest ≡ Ok ts → AreTokens into (drop skip rest) ts)
    → (found : Option (Token × ℕ)) → token_at inside (b ∷ rest) ≡ found → (ts : List Token) → then inside at rest found ≡ Ok ts → AreTokens inside (b ∷ rest) ts
then_sound inside at b rest dark ih None e ts h = absurd cc
then_sound inside at b rest dark ih (Some found) e ts h =
    let f = front_is found.0 (tokens_from (inside_after inside found.0) (at + 1) (found.1 - 1) rest) ts h in
    subst (λ (xs : List Token). AreTokens inside (b ∷ rest) xs) (sym f.2) (AreTokens.token dark e (ih (inside_after inside found.0) (at + 1) (found.1 - 1) f.0 f.1))

turn : (inside : Bool) (at b : ℕ) (rest : List ℕ) → tokens_from inside at 0 (b ∷ rest) ≡ cond (is_space b) (tokens_from inside (at + 1) 0 rest) (then inside at rest (token_at inside (b ∷ rest)))
unfolding tokens_from
turn inside at b rest = ap (cond (is_space b) (tokens_from inside (at + 1) 0 rest)) (same (token_at inside (b ∷ rest)))
  where
    same : (found : Option (Token × ℕ)) → elim found as (λ x. Read) [
      | None ↦ Err at
      | Some found ↦ with_front (found.0 ∷ []) (tokens_from (inside_after inside found.0) (at + 1) (found.1 - 1) rest)
    ] ≡ then inside at rest found
    same None = refl
    same (Some found) = refl

choice_sound : (inside : Bool) (at b : ℕ) (rest : List ℕ)
    → ((into : Bool) (at skip : ℕ) (ts : List Token) → tokens_from into at skip rest ≡ Ok ts → AreTokens into (drop skip rest) ts)
    → (w : Bool) → is_space b ≡ w → (ts : List Token) → cond w (tokens_from inside (at + 1) 0 rest) (then inside at rest (token_at inside (b ∷ rest))) ≡ Ok ts → AreTokens inside (b ∷ rest) ts
choice_sound inside at b rest ih true e ts h = AreTokens.white e (ih inside (at + 1) 0 ts h)
choice_sound inside at b rest ih false e ts h = then_sound inside at b rest e ih (token_at inside (b ∷ rest)) refl ts h

from_sound : (text : List ℕ) (inside : Bool) (at skip : ℕ) (ts : List Token) → tokens_from inside at skip text ≡ Ok ts → AreTokens inside (drop skip text) ts
unfolding tokens_from
from_sound [] inside at zero ts e = subst (λ (xs : List Token). AreTokens inside [] xs) (ok_is [] ts e) AreTokens.no_token
from_sound [] inside at (suc skip) ts e = subst (λ (xs : List Token). AreTokens inside [] xs) (ok_is [] ts e) AreTokens.no_token
from_sound (b ∷ rest) inside at (suc skip) ts e = from_sound rest inside (at + 1) skip ts e
from_sound (b ∷ rest) inside at zero ts e = choice_sound inside at b rest (from_sound rest) (is_space b) refl ts (sym (turn inside at b rest) ∙ e)

pub tokens_sound : (text : List ℕ) (ts : List Token) → tokens_of text ≡ Ok ts → AreTokens false text ts
tokens_sound text ts e = from_sound text false 0 0 ts e

none_left : (inside : Bool) (at : ℕ) → tokens_from inside at 0 [] ≡ Ok []
unfolding tokens_from
none_left inside at = refl

from_complete : {inside : Bool} {text : List ℕ} {ts : List Token} → AreTokens inside text ts → (at : ℕ) → tokens_from inside at 0 text ≡ Ok ts
from_complete {inside = inside} AreTokens.no_token at = none_left inside at
from_complete (AreTokens.white {inside = inside} {b = b} {rest = rest} e h) at = turn inside at b rest ∙ rw e (from_complete h (at + 1))
from_complete (AreTokens.token {inside = inside} {b = b} {n = n} {rest = rest} {t = t} e found h) at =
    turn inside at b rest ∙ rw (e, found, skipped, from_complete h) refl

pub tokens_complete : (text : List ℕ) (ts : List Token) → AreTokens false text ts → tokens_of text ≡ Ok ts
tokens_complete text ts h = from_complete h 0

-- ---- where a text has no token

abbrev failed : ℕ → Read
failed at = Err at

failed_is : (i j : ℕ) → failed i ≡ failed j → i ≡ j
failed_is i j e = cc

-- where the text stops, counted from an offset
abbrev Stops : Bool → ℕ → List ℕ → ℕ → Type 0
Stops inside from text e = (k : ℕ) × StopsAt inside text k × (e ≡ from + k)

front_fails : (t : Token) (read : Read) (e : ℕ) → with_front (t ∷ []) read ≡ Err e → read ≡ Err e
front_fails t (Ok more) e h = absurd cc
front_fails t (Err at) e h = h

then_stops : (inside : Bool) (at b : ℕ) (rest : List ℕ) → is_space b ≡ false
    → ((into : Bool) (at skip e : ℕ) → tokens_from into at skip rest ≡ Err e → Stops into (at + skip) (drop skip rest) e)
    → (found : Option (Token × ℕ)) → token_at inside (b ∷ rest) ≡ found → (e : ℕ) → then inside at rest found ≡ Err e → Stops inside at (b ∷ rest) e
then_stops inside at b rest dark ih None none e h = (0, StopsAt.stuck dark none, sym (failed_is at e h) ∙ omega arith)
then_stops inside at b rest dark ih (Some found) some e h =
    let f = front_fails found.0 (tokens_from (inside_after inside found.0) (at + 1) (found.1 - 1) rest) e h in
    let s = ih (inside_after inside found.0) (at + 1) (found.1 - 1) e f in
    (1 + (found.1 - 1) + s.0, StopsAt.token dark some s.1, s.2 ∙ omega arith)

choice_stops : (inside : Bool) (at b : ℕ) (rest : List ℕ)
    → ((into : Bool) (at skip e : ℕ) → tokens_from into at skip rest ≡ Err e → Stops into (at + skip) (drop skip rest) e)
    → (w : Bool) → is_space b ≡ w → (e : ℕ) → cond w (tokens_from inside (at + 1) 0 rest) (then inside at rest (token_at inside (b ∷ rest))) ≡ Err e → Stops inside at (b ∷ rest) e
choice_stops inside at b rest ih true is e h =
    let s = ih inside (at + 1) 0 e h in
    (1 + s.0, StopsAt.white is s.1, s.2 ∙ omega arith)
choice_stops inside at b rest ih false is e h = then_stops inside at b rest is ih (token_at inside (b ∷ rest)) refl e h

nothing_stops : (inside : Bool) (at skip e : ℕ) → tokens_from inside at skip [] ≡ Ok []
unfolding tokens_from
nothing_stops inside at zero e = refl
nothing_stops inside at (suc skip) e = refl

passed : (inside : Bool) (at skip b : ℕ) (rest : List ℕ) → tokens_from inside at (suc skip) (b ∷ rest) ≡ tokens_from inside (at + 1) skip rest
unfolding tokens_from
passed inside at skip b rest = refl

from_stops : (text : List ℕ) (inside : Bool) (at skip e : ℕ) → tokens_from inside at skip text ≡ Err e → Stops inside (at + skip) (drop skip text) e
from_stops [] inside at skip e h = absurd (cc (sym (nothing_stops inside at skip e) ∙ h))
from_stops (b ∷ rest) inside at (suc skip) e h =
    let s = from_stops rest inside (at + 1) skip e (sym (passed inside at skip b rest) ∙ h) in
    (s.0, s.1, s.2 ∙ omega arith)
from_stops (b ∷ rest) inside at zero e h =
    let s = choice_stops inside at b rest (from_stops rest) (is_space b) refl e (sym (turn inside at b rest) ∙ h) in
    (s.0, s.1, s.2 ∙ omega arith)

pub stop_sound : (text : List ℕ) (at : ℕ) → tokens_of text ≡ Err at → StopsAt false text at
stop_sound text at h =
    let s = from_stops text false 0 0 at h in
    let e : s.0 ≡ at = sym (s.2 ∙ omega arith) in
    subst (λ (k : ℕ). StopsAt false text k) e s.1

stuck_at : (inside : Bool) (at b : ℕ) (rest : List ℕ) → is_space b ≡ false → token_at inside (b ∷ rest) ≡ None → tokens_from inside at 0 (b ∷ rest) ≡ failed at
stuck_at inside at b rest dark none = turn inside at b rest ∙ rw (dark, none) refl

white_at : (inside : Bool) (at b : ℕ) (rest : List ℕ) → is_space b ≡ true → tokens_from inside at 0 (b ∷ rest) ≡ tokens_from inside (at + 1) 0 rest
white_at inside at b rest e = turn inside at b rest ∙ rw e refl

token_fails : (inside : Bool) (at b n e : ℕ) (rest : List ℕ) (t : Token) → is_space b ≡ false → token_at inside (b ∷ rest) ≡ Some (t, n)
    → tokens_from (inside_after inside t) (at + 1 + (n - 1)) 0 (drop (n - 1) rest) ≡ failed e → tokens_from inside at 0 (b ∷ rest) ≡ failed e
token_fails inside at b n e rest t dark found h = turn inside at b rest ∙ rw (dark, found, skipped, h) refl

stop_from : {inside : Bool} {text : List ℕ} {k : ℕ} → StopsAt inside text k → (at : ℕ) → tokens_from inside at 0 text ≡ failed (at + k)
stop_from {inside = inside} (StopsAt.stuck {b = b} {rest = rest} dark none) at =
    let e : at ≡ at + 0 = omega arith in
    stuck_at inside at b rest dark none ∙ ap failed e
stop_from {inside = inside} (StopsAt.white {b = b} {at = k} {rest = rest} is h) at =
    let e : at + 1 + k ≡ at + (1 + k) = omega arith in
    white_at inside at b rest is ∙ stop_from h (at + 1) ∙ ap failed e
stop_from {inside = inside} (StopsAt.token {b = b} {n = n} {at = k} {rest = rest} {t = t} dark found h) at =
    let e : at + 1 + (n - 1) + k ≡ at + (1 + (n - 1) + k) = omega arith in
    token_fails inside at b n (at + 1 + (n - 1) + k) rest t dark found (stop_from h (at + 1 + (n - 1))) ∙ ap failed e

pub stop_complete : (text : List ℕ) (at : ℕ) → StopsAt false text at → tokens_of text ≡ Err at
stop_complete text at h =
    let e : 0 + at ≡ at = omega arith in
    stop_from h 0 ∙ ap failed e
