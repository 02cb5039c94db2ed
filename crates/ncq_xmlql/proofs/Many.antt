-- What is read one behind the other is spelled so, whatever is read.
use Rattle.std.proofs.Common.{◌≡◌, ℕ, zero, suc, Bool, true, false, cond, List, [], ◌∷◌, Some, refl}
use Rattle.ncq_token.specs.declared.token.Token.{Token}
use Rattle.ncq_xmlql.specs.Reading.{Read, ◌>>=◌, many_in}
use Rattle.ncq_xmlql.proofs.Sound.{bind_some, at_value}

module _ {A : Type 0} (starts : List Token → Bool) (one : List Token → Read A) (Are : List Token → List A → List Token → Type 0)
    (none : (a : List Token) → Are a [] a)
    (more : (tokens : List Token) (x : A × List Token) (xs : List A) (c : List Token) → starts tokens ≡ true → one tokens ≡ Some x → Are x.1 xs c → Are tokens (x.0 ∷ xs) c) where
  choice : (n : ℕ) → ((tokens : List Token) (x : List A × List Token) → many_in starts one n tokens ≡ Some x → Are tokens x.0 x.1)
      → (tokens : List Token) (x : List A × List Token) (b : Bool) → starts tokens ≡ b
      → cond b (one tokens >>= λ first. many_in starts one n first.1 >>= λ more. Some (first.0 ∷ more.0, more.1)) (Some ([], tokens)) ≡ Some x → Are tokens x.0 x.1
  choice n ih tokens x true go e =
      let a = bind_some (one tokens) (λ first. many_in starts one n first.1 >>= λ more. Some (first.0 ∷ more.0, more.1)) x e in
      let b = bind_some (many_in starts one n a.0.1) (λ more. Some (a.0.0 ∷ more.0, more.1)) x a.2 in
      at_value (λ (y : List A × List Token). Are tokens y.0 y.1) (a.0.0 ∷ b.0.0, b.0.1) x b.2 (more tokens a.0 b.0.0 b.0.1 go a.1 (ih a.0.1 b.0 b.1))
  choice n ih tokens x false go e = at_value (λ (y : List A × List Token). Are tokens y.0 y.1) ([], tokens) x e (none tokens)

  pub many_spells : (n : ℕ) (tokens : List Token) (x : List A × List Token) → many_in starts one n tokens ≡ Some x → Are tokens x.0 x.1
  unfolding many_in
  many_spells zero tokens x e = at_value (λ (y : List A × List Token). Are tokens y.0 y.1) ([], tokens) x e (none tokens)
  many_spells (suc n) tokens x e = choice n (many_spells n) tokens x (starts tokens) refl e
