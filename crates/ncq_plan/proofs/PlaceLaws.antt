-- The first place in a list of what passes a test.
use Rattle.std.proofs.Common.{◌≡◌, ℕ, ◌+◌, not, Bool, true, false, cond, List, [], ◌∷◌, map, length, refl, ap, ◌∙◌, ◌<◌, get_or, arith}
use Rattle.std.proofs.lemmas.Bool.Decides.{nat_tests}
use Rattle.std.proofs.lemmas.List.Sums.{position_or_len_is}
use Rattle.std.specs.Prelude.{Some, None, position, nat_lt}
use Rattle.std.specs.List.{position_or_len}
use Rattle.std.proofs.lemmas.List.{length-map}

module _ {A B : Type 0} (p : B → Bool) (f : A → B) where
  place-map : (xs : List A) → position_or_len p (map f xs) ≡ position_or_len (λ x. p (f x)) xs
  place-map [] = refl
  place-map (x ∷ xs) = ap (λ (n : ℕ). cond (not (p (f x))) (1 + n) 0) (place-map xs)

  -- the place in a list of what is made of each item
  pub position-map : (xs : List A) → position p (map f xs) ≡ position (λ x. p (f x)) xs
  position-map xs = λ i. cond (nat_lt (place-map xs i) (length-map xs f i)) (Some (place-map xs i)) None

module _ {A : Type 0} (p : A → Bool) where
  placed : (xs : List A) (i : ℕ) → position_or_len p xs ≡ i → i < length xs → position p xs ≡ Some i
  placed xs i e h =
      let within : nat_lt i (length xs) ≡ true = grind (arith, nat_tests) in
      (λ j. cond (nat_lt (e j) (length xs)) (Some (e j)) None) ∙ (λ j. cond (within j) (Some i) None)

  -- the first that passes
  pub position_here : (xs : List A) (i : ℕ) (d : A) → i < length xs → ((k : ℕ) → k < i → p (get_or xs k d) ≡ false) → p (get_or xs i d) ≡ true → position p xs ≡ Some i
  position_here xs i d h before here = placed xs i (position_or_len_is p xs i d (omega arith) before (λ _. here)) h

  -- none passes
  pub position_none : (xs : List A) → ((k : ℕ) (d : A) → k < length xs → p (get_or xs k d) ≡ false) → position p xs ≡ None
  position_none [] h = refl
  position_none (x ∷ xs) h =
      let e : position_or_len p (x ∷ xs) ≡ length (x ∷ xs) = position_or_len_is p (x ∷ xs) (length (x ∷ xs)) x (omega arith) (λ k l. h k x l) (λ l. absurd (omega arith)) in
      let out : nat_lt (length (x ∷ xs)) (length (x ∷ xs)) ≡ false = grind (arith, nat_tests) in
      (λ j. cond (nat_lt (e j) (length (x ∷ xs))) (Some (e j)) None) ∙ (λ j. cond (out j) (Some (length (x ∷ xs))) None)
