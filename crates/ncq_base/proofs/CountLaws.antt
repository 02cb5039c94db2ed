-- Laws of sums over lists, and of lists with the same counts.
use Rattle.std.proofs.Common.{◌≡◌, ℕ, ◌+◌, ◌<◌, Bool, true, false, cond, List, [], ◌∷◌, ◌++◌, map, length, filter, refl, sym, ◌∙◌, ap, subst, arith, add_assoc, zero-add, sum_by}
use Rattle.std.specs.List.{flat_map}
use Rattle.std.specs.List.Sorted.{IsPermutation}
use Rattle.std.proofs.lemmas.List.Sums.{sum_by-cons}
use Rattle.std.proofs.lemmas.List.Sorted.{sum_by-IsPermutation}
use Rattle.ncq_base.specs.Counts.{total_by, SameCounts}
use Rattle.ncq_base.specs.Keys.{times}

module _ {A : Type 0} where
  pub total_by-append : (f : A → ℕ) (xs ys : List A) → total_by f (xs ++ ys) ≡ total_by f xs + total_by f ys
  total_by-append f [] ys = omega arith
  total_by-append f (x ∷ xs) ys = ap (λ n. f x + n) (total_by-append f xs ys) ∙ sym (add_assoc (f x) (total_by f xs) (total_by f ys))

  pub total_by-one : (xs : List A) → total_by (λ _. 1) xs ≡ length xs
  total_by-one [] = refl
  total_by-one (x ∷ xs) = let rest = total_by-one xs in omega arith

  pub total_by-zero : (xs : List A) → total_by (λ _. 0) xs ≡ 0
  total_by-zero [] = refl
  total_by-zero (x ∷ xs) = zero-add _ ∙ total_by-zero xs

  pub total_by-congr : (f g : A → ℕ) → ((x : A) → f x ≡ g x) → (xs : List A) → total_by f xs ≡ total_by g xs
  total_by-congr f g e [] = refl
  total_by-congr f g e (x ∷ xs) = λ i. e x i + total_by-congr f g e xs i

  pub total_by-add : (f g : A → ℕ) (xs : List A) → total_by (λ x. f x + g x) xs ≡ total_by f xs + total_by g xs
  total_by-add f g [] = refl
  total_by-add f g (x ∷ xs) = let rest = total_by-add f g xs in omega arith

  filtered_one : (b : Bool) (f : A → ℕ) (test : A → Bool) (x : A) (xs : List A) → total_by f (cond b (x ∷ filter test xs) (filter test xs)) ≡ cond b (f x) 0 + total_by f (filter test xs)
  filtered_one true f test x xs = refl
  filtered_one false f test x xs = sym (zero-add _)

  -- what passes a test weighs what it weighed, and the rest nothing
  pub total_by-filter : (f : A → ℕ) (test : A → Bool) (xs : List A) → total_by f (filter test xs) ≡ total_by (λ x. cond (test x) (f x) 0) xs
  total_by-filter f test [] = refl
  total_by-filter f test (x ∷ xs) = filtered_one (test x) f test x xs ∙ ap (λ n. cond (test x) (f x) 0 + n) (total_by-filter f test xs)

  pub total_by-sum_by : (f : A → ℕ) (xs : List A) → total_by f xs ≡ sum_by f xs
  total_by-sum_by f [] = refl
  total_by-sum_by f (x ∷ xs) = ap (λ n. f x + n) (total_by-sum_by f xs) ∙ sym (sum_by-cons f x xs)

  pub counts_from_permutation : (xs ys : List A) → IsPermutation xs ys → SameCounts xs ys
  counts_from_permutation xs ys p f = total_by-sum_by f xs ∙ sym (sum_by-IsPermutation f xs ys p) ∙ sym (total_by-sum_by f ys)

  pub counts-append : (xs ys us vs : List A) → SameCounts xs ys → SameCounts us vs → SameCounts (xs ++ us) (ys ++ vs)
  counts-append xs ys us vs p q f = total_by-append f xs us ∙ (λ i. p f i + q f i) ∙ sym (total_by-append f ys vs)

  pub counts-filter : (test : A → Bool) (xs ys : List A) → SameCounts xs ys → SameCounts (filter test xs) (filter test ys)
  counts-filter test xs ys p f = total_by-filter f test xs ∙ p (λ x. cond (test x) (f x) 0) ∙ sym (total_by-filter f test ys)

  pub counts-length : (xs ys : List A) → SameCounts xs ys → length xs ≡ length ys
  counts-length xs ys p = sym (total_by-one xs) ∙ p (λ _. 1) ∙ total_by-one ys

module _ {A B : Type 0} where
  pub total_by-map : (f : B → ℕ) (g : A → B) (xs : List A) → total_by f (map g xs) ≡ total_by (λ x. f (g x)) xs
  total_by-map f g [] = refl
  total_by-map f g (x ∷ xs) = ap (λ n. f (g x) + n) (total_by-map f g xs)

  pub total_by-flat_map : (f : B → ℕ) (g : A → List B) (xs : List A) → total_by f (flat_map g xs) ≡ total_by (λ x. total_by f (g x)) xs
  total_by-flat_map f g [] = refl
  total_by-flat_map f g (x ∷ xs) = total_by-append f (g x) (flat_map g xs) ∙ ap (λ n. total_by f (g x) + n) (total_by-flat_map f g xs)

  -- two sums may be taken in either order
  pub total_by-swap : (f : A → B → ℕ) (xs : List A) (ys : List B) → total_by (λ x. total_by (f x) ys) xs ≡ total_by (λ y. total_by (λ x. f x y) xs) ys
  total_by-swap f [] ys = sym (total_by-zero ys)
  total_by-swap f (x ∷ xs) ys = ap (λ n. total_by (f x) ys + n) (total_by-swap f xs ys) ∙ sym (total_by-add (f x) (λ y. total_by (λ x. f x y) xs) ys)

  pub counts-map : (g : A → B) (xs ys : List A) → SameCounts xs ys → SameCounts (map g xs) (map g ys)
  counts-map g xs ys p f = total_by-map f g xs ∙ p (λ x. f (g x)) ∙ sym (total_by-map f g ys)

  pub counts-flat_map : (g : A → List B) (xs ys : List A) → SameCounts xs ys → SameCounts (flat_map g xs) (flat_map g ys)
  counts-flat_map g xs ys p f = total_by-flat_map f g xs ∙ p (λ x. total_by f (g x)) ∙ sym (total_by-flat_map f g ys)

  -- each item gives the same counts
  pub counts-flat_map_each : (g h : A → List B) → ((x : A) → SameCounts (g x) (h x)) → (xs : List A) → SameCounts (flat_map g xs) (flat_map h xs)
  counts-flat_map_each g h e xs f = total_by-flat_map f g xs ∙ total_by-congr (λ x. total_by f (g x)) (λ x. total_by f (h x)) (λ x. e x f) xs ∙ sym (total_by-flat_map f h xs)

-- Where a test decides equality, equal counts of each item are the same counts.
module _ {A : Type 0} (test : A → A → Bool) (is : (x y : A) → test x y ≡ true → x ≡ y) (itself : (x : A) → test x x ≡ true) where
  -- the list without the first item that passes
  without : A → List A → List A
  without x [] = []
  without x (y ∷ ys) = cond (test x y) ys (y ∷ without x ys)

  -- a sum without the first item that passes, where one does
  without_total : (f : A → ℕ) (x : A) (ys : List A) → 0 < times (test x) ys → total_by f ys ≡ f x + total_by f (without x ys)
  unfolding without
  without_total f x [] h = absurd (omega arith)
  without_total f x (y ∷ ys) h =
      elim (test x y) as (λ b. test x y ≡ b → 0 < cond b 1 0 + times (test x) ys → total_by f (y ∷ ys) ≡ f x + total_by f (cond b ys (y ∷ without x ys))) [
        | true ↦ λ e h. ap (λ z. f z + total_by f ys) (sym (is x y e))
        | false ↦ λ e h. let rest = without_total f x ys (omega arith) in omega arith
      ] refl h

  indicator : A → A → ℕ
  indicator q x = cond (test q x) 1 0

  times_total : (q : A) (xs : List A) → times (test q) xs ≡ total_by (indicator q) xs
  unfolding indicator
  times_total q [] = refl
  times_total q (x ∷ xs) = ap (λ n. cond (test q x) 1 0 + n) (times_total q xs)

  times_itself : (x : A) (xs : List A) → 0 < times (test x) (x ∷ xs)
  times_itself x xs = subst (λ b. 0 < cond b 1 0 + times (test x) xs) (sym (itself x)) (omega arith)

  pub counts_from_times : (xs ys : List A) → ((q : A) → times (test q) xs ≡ times (test q) ys) → SameCounts xs ys
  counts_from_times [] [] e f = refl
  counts_from_times [] (y ∷ ys) e f = let some = times_itself y ys in let none = e y in absurd (omega arith)
  counts_from_times (x ∷ xs) ys e f =
      let some : 0 < times (test x) ys = subst (λ n. 0 < n) (e x) (times_itself x xs) in
      let rest = counts_from_times xs (without x ys) (λ q.
      let a = times_total q (without x ys) in
      let b = times_total q ys in
      let c = without_total (indicator q) x ys some in
      let d = times_total q (x ∷ xs) in
      let g = times_total q xs in
      let h = e q in omega arith) f in
      ap (λ n. f x + n) rest ∙ sym (without_total f x ys some)
