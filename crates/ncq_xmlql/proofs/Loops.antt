-- Reading one after the other, as the loops do.
use Rattle.std.proofs.Common.{◌≡◌, ℕ, zero, suc, ◌≤◌, ◌<◌, Bool, true, false, List, [], ◌∷◌, ◌++◌, length, Option, Some, None, refl, sym, ap, ◌∙◌, append_assoc, arith}
use Rattle.std.proofs.lemmas.List.{append-nil}
use Rattle.ncq_base.specs.declared.atom.Op.TheVariants.{Eq}
use Rattle.ncq_token.specs.declared.token.Token.{Token}
use Rattle.ncq_token.specs.declared.token.Token.TheVariants.{TagStart, Name, Variable, Quoted, Cmp}
use Rattle.ncq_xmlql.specs.declared.model.Operand.{Operand}
use Rattle.ncq_xmlql.specs.declared.model.PatternAttribute.{PatternAttribute}
use Rattle.ncq_xmlql.specs.declared.mismatch.Mismatch.{Mismatch}
use Rattle.ncq_xmlql.specs.declared.mismatch.Mismatch.TheVariants.{OutOfMemory, NotSpelled}
use Rattle.ncq_xmlql.specs.Reading.{Read, ◌>>=◌, Fails, value_at, with_attribute, attributes_at, many_in, many}

-- items in front of what is read behind them
abbrev pub with_items : {A : Type 0} → List A → Read (List A) → Read (List A)
with_items front read = read >>= λ x. Some (front ++ x.0, x.1)

more_items : {A : Type 0} (front : List A) (x : A) (read : Read (List A)) → with_items front (read >>= λ m. Some (x ∷ m.0, m.1)) ≡ with_items (front ++ x ∷ []) read
more_items {A = A} front x None = refl
more_items {A = A} front x (Some m) = ap (λ (xs : List A). Some (xs, m.1)) (sym (append_assoc front (x ∷ []) m.0))

no_items : {A : Type 0} (front : List A) (rest : List Token) → with_items front (Some ([], rest)) ≡ Some (front, rest)
no_items {A = A} front rest = ap (λ (xs : List A). Some (xs, rest)) (append-nil front)

-- ---- attributes

attribute_step : (name : List ℕ) (after : List Token) → attributes_at (Name name ∷ after) ≡ (value_at after >>= λ v. with_attribute name v.0 (attributes_at v.1))
unfolding attributes_at
attribute_step name ((Cmp Eq) ∷ (Quoted text) ∷ rest) = refl
attribute_step name ((Cmp Eq) ∷ (Variable x) ∷ rest) = refl
attribute_step name rest = refl

pub attributes_go_on : (front : List PatternAttribute) (name : List ℕ) (after : List Token) (value : Operand) (next : List Token) (whole : Read (List PatternAttribute))
    → value_at after ≡ Some (value, next) → with_items front (attributes_at (Name name ∷ after)) ≡ whole
    → with_items (front ++ record { name = name; value = value } ∷ []) (attributes_at next) ≡ whole
attributes_go_on front name after value next whole e so_far =
    sym (more_items front (record { name = name; value = value }) (attributes_at next))
    ∙ ap (λ (v : Read Operand). with_items front (v >>= λ v. with_attribute name v.0 (attributes_at v.1))) (sym e)
    ∙ ap (with_items front) (sym (attribute_step name after)) ∙ so_far

pub attributes_fail : (e : Mismatch) (front : List PatternAttribute) (name : List ℕ) (after : List Token) (whole : Read (List PatternAttribute))
    → Fails e (value_at after) → with_items front (attributes_at (Name name ∷ after)) ≡ whole → Fails e whole
attributes_fail OutOfMemory front name after whole h so_far = tt
attributes_fail NotSpelled front name after whole h so_far =
    sym so_far ∙ ap (with_items front) (attribute_step name after) ∙ ap (λ (v : Read Operand). with_items front (v >>= λ v. with_attribute name v.0 (attributes_at v.1))) h

pub attributes_end : (front : List PatternAttribute) (token : Token) (after : List Token) (whole : Read (List PatternAttribute))
    → ((name : List ℕ) → token ≡ Name name → ⊥) → with_items front (attributes_at (token ∷ after)) ≡ whole → whole ≡ Some (front, token ∷ after)
unfolding attributes_at
attributes_end front (Name name) after whole h so_far = absurd (h name refl)
attributes_end front TagStart after whole h so_far = sym so_far ∙ no_items front (TagStart ∷ after)
attributes_end front token after whole h so_far = sym so_far ∙ no_items front (token ∷ after)

pub attributes_stop : (front : List PatternAttribute) (rest : List Token) (whole : Read (List PatternAttribute)) → length rest ≡ 0
    → with_items front (attributes_at rest) ≡ whole → whole ≡ Some (front, rest)
unfolding attributes_at
attributes_stop front [] whole h so_far = sym so_far ∙ no_items front []
attributes_stop front (t ∷ rest) whole h so_far = absurd (omega (arith, h))

-- ---- what stands one behind the other

module _ {A : Type 0} (starts : List Token → Bool) (one : List Token → Read A) where
  -- what is read takes a token at least
  abbrev pub IsShorter : Type 0
  IsShorter = (tokens : List Token) (x : A × List Token) → one tokens ≡ Some x → length x.1 < length tokens

  -- one, and those behind it
  abbrev pub then : (List Token → Read (List A)) → Option (A × List Token) → Read (List A)
  then rest None = None
  then rest (Some first) = rest first.1 >>= λ more. Some (first.0 ∷ more.0, more.1)

  then_is : (rest : List Token → Read (List A)) (o : Option (A × List Token)) → (o >>= λ first. rest first.1 >>= λ more. Some (first.0 ∷ more.0, more.1)) ≡ then rest o
  then_is rest None = refl
  then_is rest (Some x) = refl

  turn : (n : ℕ) (tokens : List Token) → starts tokens ≡ true → many_in starts one (suc n) tokens ≡ then (many_in starts one n) (one tokens)
  unfolding many_in
  turn n tokens e = rw e (then_is (many_in starts one n) (one tokens))

  pub last_turn : (n : ℕ) (tokens : List Token) → starts tokens ≡ false → many_in starts one n tokens ≡ Some ([], tokens)
  unfolding many_in
  last_turn zero tokens e = refl
  last_turn (suc n) tokens e = rw e refl

  pub next_turn : (n : ℕ) (a b c : List Token) (x : A) (xs : List A) → starts a ≡ true → one a ≡ Some (x, b) → many_in starts one n b ≡ Some (xs, c) → many_in starts one (suc n) a ≡ Some (x ∷ xs, c)
  unfolding many_in
  next_turn n a b c x xs e f g = rw (e, f, g) refl

  same_behind : (f g : List Token → Read (List A)) (tokens : List Token) → ((x : A × List Token) → one tokens ≡ Some x → f x.1 ≡ g x.1)
      → (o : Option (A × List Token)) → one tokens ≡ o → then f o ≡ then g o
  same_behind f g tokens h None e = refl
  same_behind f g tokens h (Some x) e = ap (λ (r : Read (List A)). r >>= λ more. Some (x.0 ∷ more.0, more.1)) (h x e)

  same_turn : (n m : ℕ) (tokens : List Token) → ((x : A × List Token) → one tokens ≡ Some x → many_in starts one n x.1 ≡ many_in starts one m x.1)
      → (b : Bool) → starts tokens ≡ b → many_in starts one (suc n) tokens ≡ many_in starts one (suc m) tokens
  same_turn n m tokens h true e = turn n tokens e ∙ same_behind (many_in starts one n) (many_in starts one m) tokens h (one tokens) refl ∙ sym (turn m tokens e)
  same_turn n m tokens h false e = last_turn (suc n) tokens e ∙ sym (last_turn (suc m) tokens e)

  module _ (none : starts [] ≡ false) (shorter : IsShorter) where
    pub enough : (n m : ℕ) (tokens : List Token) → length tokens ≤ n → length tokens ≤ m → many_in starts one n tokens ≡ many_in starts one m tokens
    enough zero m [] p q = last_turn zero [] none ∙ sym (last_turn m [] none)
    enough zero m (t ∷ ts) p q = absurd (omega arith)
    enough (suc n) zero [] p q = last_turn (suc n) [] none ∙ sym (last_turn zero [] none)
    enough (suc n) zero (t ∷ ts) p q = absurd (omega arith)
    enough (suc n) (suc m) tokens p q = same_turn n m tokens (λ x e. enough n m x.1 (omega (arith, shorter tokens x e)) (omega (arith, shorter tokens x e))) (starts tokens) refl

    unrolled : (tokens : List Token) → starts tokens ≡ true → many starts one tokens ≡ then (many starts one) (one tokens)
    unrolled [] e = absurd (cc none)
    unrolled (t ∷ ts) e = turn (length ts) (t ∷ ts) e ∙ same_behind (many_in starts one (length ts)) (many starts one) (t ∷ ts)
        (λ x f. enough (length ts) (length x.1) x.1 (omega (arith, shorter (t ∷ ts) x f)) (omega arith)) (one (t ∷ ts)) refl

    pub many_go_on : (front : List A) (tokens : List Token) (x : A) (next : List Token) (whole : Read (List A)) → starts tokens ≡ true → one tokens ≡ Some (x, next)
        → with_items front (many starts one tokens) ≡ whole → with_items (front ++ x ∷ []) (many starts one next) ≡ whole
    many_go_on front tokens x next whole e found so_far =
        sym (more_items front x (many starts one next)) ∙ ap (λ (o : Option (A × List Token)). with_items front (then (many starts one) o)) (sym found) ∙ ap (with_items front) (sym (unrolled tokens e)) ∙ so_far

    pub many_fail : (m : Mismatch) (front : List A) (tokens : List Token) (whole : Read (List A)) → starts tokens ≡ true → Fails m (one tokens)
        → with_items front (many starts one tokens) ≡ whole → Fails m whole
    many_fail OutOfMemory front tokens whole e h so_far = tt
    many_fail NotSpelled front tokens whole e h so_far =
        sym so_far ∙ ap (with_items front) (unrolled tokens e) ∙ ap (λ (o : Option (A × List Token)). with_items front (then (many starts one) o)) h

  pub many_end : (front : List A) (tokens : List Token) (whole : Read (List A)) → starts tokens ≡ false
      → with_items front (many starts one tokens) ≡ whole → whole ≡ Some (front, tokens)
  many_end front tokens whole e so_far = sym so_far ∙ ap (with_items front) (last_turn (length tokens) tokens e) ∙ no_items front tokens
