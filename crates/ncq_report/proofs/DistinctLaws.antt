-- Lists in which no item stands twice.
use Rattle.std.proofs.Common.{◌≡◌, ℕ, ◌+◌, Bool, true, false, cond, ◌||◌, List, [], ◌∷◌, refl, sym, ap, ◌∙◌, arith, zero-add}
use Rattle.std.specs.Prelude.{nat_lt}
use Rattle.std.specs.List.{AllByRecursion, IsDistinct, list_any}
use Rattle.std.proofs.lemmas.Bool.{or_parts, false≢true}
use Rattle.std.proofs.lemmas.Map.Keys.{IsDistinct-head, IsDistinct-tail, IsDistinct-cons}
use Rattle.std.proofs.lemmas.Bool.Decides.{nat_tests}
use Rattle.ncq_base.specs.Counts.{SameCounts, total_by}
use Rattle.ncq_base.specs.Keys.{times}
use Rattle.ncq_base.proofs.CountLaws.{counts_from_times}

-- tests that follow from each other answer alike
pub alike : (a b : Bool) → (a ≡ true → b ≡ true) → (b ≡ true → a ≡ true) → a ≡ b
alike true true to back = refl
alike true false to back = sym (to refl)
alike false true to back = back refl
alike false false to back = refl

module _ {A : Type 0} where
  -- where no item passes, each fails
  pub each_fails : (test : A → Bool) (xs : List A) → list_any test xs ≡ false → AllByRecursion (λ x. test x ≡ false) xs
  each_fails test [] none = tt
  each_fails test (x ∷ xs) none = let parts = or_parts (test x) (list_any test xs) none in (parts.0, each_fails test xs parts.1)

  -- what holds of each item holds of one that passes
  pub one_passes : (P : A → Type 0) (test : A → Bool) (xs : List A) → AllByRecursion P xs → list_any test xs ≡ true → (x : A) × (test x ≡ true) × P x
  one_passes P test [] all some = absurd (false≢true some)
  one_passes P test (x ∷ xs) all some = elim (test x) as (λ t. test x ≡ t → (t || list_any test xs) ≡ true → (y : A) × (test y ≡ true) × P y) [
    | true ↦ λ here found. (x, here, all.0)
    | false ↦ λ here found. one_passes P test xs all.1 found
  ] refl some

  any_total : (test : A → Bool) (xs : List A) → list_any test xs ≡ nat_lt 0 (total_by (λ x. cond (test x) 1 0) xs)
  any_total test [] = refl
  any_total test (x ∷ xs) = elim (test x) as (λ t. (t || list_any test xs) ≡ nat_lt 0 (cond t 1 0 + total_by (λ x. cond (test x) 1 0) xs)) [
    | true ↦ grind (arith, nat_tests)
    | false ↦ any_total test xs ∙ ap (nat_lt 0) (sym (zero-add _))
  ]

  -- lists that are the same in another order pass a test alike
  pub any_counts : (test : A → Bool) (xs ys : List A) → SameCounts xs ys → list_any test xs ≡ list_any test ys
  any_counts test xs ys same = any_total test xs ∙ ap (nat_lt 0) (same (λ x. cond (test x) 1 0)) ∙ sym (any_total test ys)

module _ {A : Type 0} (test : A → A → Bool) (is : (x y : A) → test x y ≡ true → x ≡ y) (itself : (x : A) → test x x ≡ true) where
  never : (q : A) (xs : List A) → AllByRecursion (λ y. test q y ≡ false) xs → times (test q) xs ≡ 0
  never q [] none = refl
  never q (x ∷ xs) none = (λ i. cond {A = ℕ} (none.0 i) 1 0 + never q xs none.1 i)

  -- an item stands once or not at all
  times-distinct : (q : A) (xs : List A) → IsDistinct test xs → times (test q) xs ≡ cond (list_any (test q) xs) 1 0
  times-distinct q [] apart = refl
  times-distinct q (x ∷ xs) apart = elim (test q x) as (λ t. test q x ≡ t → cond t 1 0 + times (test q) xs ≡ cond (t || list_any (test q) xs) 1 0) [
    | true ↦ λ here.
        let no_more : times (test q) xs ≡ 0 = ap (λ p. times (test p) xs) (is q x here) ∙ never x xs (IsDistinct-head test x xs apart) in
        omega arith
    | false ↦ λ here. zero-add _ ∙ times-distinct q xs (IsDistinct-tail test x xs apart)
  ] refl

  -- such lists with the same items are the same in another order
  pub distinct_counts : (xs ys : List A) → IsDistinct test xs → IsDistinct test ys → ((q : A) → list_any (test q) xs ≡ list_any (test q) ys) → SameCounts xs ys
  distinct_counts xs ys apart apart' same = counts_from_times test is itself xs ys (λ q.
      times-distinct q xs apart ∙ ap (λ (t : Bool). cond t 1 0) (same q) ∙ sym (times-distinct q ys apart'))

  -- one item more, unless it is there
  pub distinct_with : (x : A) (xs : List A) → IsDistinct test xs → IsDistinct test (cond (list_any (test x) xs) xs (x ∷ xs))
  distinct_with x xs apart = elim (list_any (test x) xs) as (λ t. list_any (test x) xs ≡ t → IsDistinct test (cond t xs (x ∷ xs))) [
    | true ↦ λ there. apart
    | false ↦ λ none. IsDistinct-cons test x xs (each_fails (test x) xs none) apart
  ] refl

  pub any_with : (q x : A) (xs : List A) → list_any (test q) (cond (list_any (test x) xs) xs (x ∷ xs)) ≡ (test q x || list_any (test q) xs)
  any_with q x xs = elim (list_any (test x) xs) as (λ t. list_any (test x) xs ≡ t → list_any (test q) (cond t xs (x ∷ xs)) ≡ (test q x || list_any (test q) xs)) [
    | true ↦ λ there. elim (test q x) as (λ u. test q x ≡ u → list_any (test q) xs ≡ (u || list_any (test q) xs)) [
      | true ↦ λ same. ap (λ p. list_any (test p) xs) (is q x same) ∙ there
      | false ↦ λ same. refl
    ] refl
    | false ↦ λ none. refl
  ] refl
