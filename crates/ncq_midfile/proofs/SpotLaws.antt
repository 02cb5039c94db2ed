-- The places of a set from one on.
use Rattle.std.proofs.Common.{◌≡◌, ℕ, ◌+◌, ◌<◌, ◌≤◌, ◌||◌, Bool, true, false, cond, List, [], ◌∷◌, ap, refl, sym, ◌∙◌, subst, arith}
use Rattle.std.specs.Prelude.{nat_eq, nat_le}
use Rattle.std.specs.List.{list_any, filter, AllByRecursion}
use Rattle.std.specs.List.Sorted.{IsStrictlySortedBy}
use Rattle.std.specs.declared.cmp.Ordering.TheVariants.{Less}
use Rattle.std.specs.declared.ops.Bound.TheVariants.{Included, Unbounded}
use Rattle.std.specs.BTreeMap.{is_at}
use Rattle.std.specs.BTreeMap.Range.{range_contains}
use Rattle.std.specs.BTreeSet.{BTreeSet}
use Rattle.std.specs.Ordering.{nat_cmp}
use Rattle.std.proofs.lemmas.Bool.Decides.{nat_tests}
use Rattle.ncq_midfile.specs.Content.{AreRising}
use Rattle.ncq_midfile.specs.Spots.{has_place}
use Rattle.ncq_midfile.specs.declared.place_set.PlaceSet.{PlaceSet}
use Rattle.ncq_midfile.specs.declared.place_set.PlaceSet.TheVariants.{One, Two, Few, Many}

-- whether a place is not below one
abbrev pub is_later : ℕ → ℕ → Bool
is_later from = range_contains nat_cmp (Included from) Unbounded

later_is : (from p : ℕ) → is_later from p ≡ nat_le from p
later_is from p = grind (arith, nat_tests)

found_is : (n k : ℕ) → nat_eq n k ≡ is_at (nat_cmp n) k
found_is n k = grind (arith, nat_tests)

apart : (from n k : ℕ) → from ≤ n → nat_le from k ≡ false → false ≡ nat_eq n k
apart from n k h e = grind (arith, nat_tests)

later_same : (from n : ℕ) (ks : List ℕ) → from ≤ n → list_any (nat_eq n) (filter (is_later from) ks) ≡ list_any (is_at (nat_cmp n)) ks
later_same from n [] h = refl
later_same from n (k ∷ ks) h =
    elim (is_later from k) as (λ b. is_later from k ≡ b → list_any (nat_eq n) (cond b (k ∷ filter (is_later from) ks) (filter (is_later from) ks)) ≡ (is_at (nat_cmp n) k || list_any (is_at (nat_cmp n)) ks)) [
      | true ↦ λ e. λ i. found_is n k i || later_same from n ks h i
      | false ↦ λ e. let none = apart from n k h (sym (later_is from k) ∙ e) ∙ found_is n k in λ i. none i || later_same from n ks h i
    ] refl

above_more : (from k : ℕ) (ks : List ℕ) → AllByRecursion (λ y. nat_cmp k y ≡ Less) ks → AllByRecursion (λ y. is_later from y ≡ true → k + 1 ≤ y) ks
above_more from k [] all = tt
above_more from k (y ∷ ys) all = (λ _. below k y all.0, above_more from k ys all.1)
  where
    below : (k y : ℕ) → nat_cmp k y ≡ Less → k + 1 ≤ y
    below k y less = grind (arith, nat_tests, less)

rise_above : (from low : ℕ) (ks : List ℕ) → IsStrictlySortedBy nat_cmp ks → AllByRecursion (λ k. is_later from k ≡ true → low ≤ k) ks → AreRising low (filter (is_later from) ks)
unfolding IsStrictlySortedBy
rise_above from low [] sorted above = tt
rise_above from low (k ∷ ks) sorted above =
    elim (is_later from k) as (λ b. is_later from k ≡ b → AreRising low (cond b (k ∷ filter (is_later from) ks) (filter (is_later from) ks))) [
      | true ↦ λ e. (above.0 e, rise_above from (k + 1) ks sorted.1 (above_more from k ks sorted.0))
      | false ↦ λ e. rise_above from low ks sorted.1 above.1
    ] refl

later_from : (from : ℕ) (ks : List ℕ) → AllByRecursion (λ k. is_later from k ≡ true → from ≤ k) ks
later_from from [] = tt
later_from from (k ∷ ks) = (λ e. let l = sym (later_is from k) ∙ e in grind (arith, nat_tests), later_from from ks)

later_rise : (from : ℕ) (ks : List ℕ) → IsStrictlySortedBy nat_cmp ks → AreRising from (filter (is_later from) ks)
later_rise from ks sorted = rise_above from from ks sorted (later_from from ks)

-- the list has, rising, the places from one on
pub record AreFrom (set : PlaceSet) (from : ℕ) (places : List ℕ) : Type 0 where
  pub rising : AreRising from places
  pub same : (q : ℕ) → from ≤ q → list_any (nat_eq q) places ≡ has_place set q

alone : (q only : ℕ) → (nat_eq q only || false) ≡ nat_eq only q
alone q only = grind (arith, nat_tests)

below : (q only from : ℕ) → only < from → from ≤ q → false ≡ nat_eq only q
below q only from low h = grind (arith, nat_tests)

one_from : (only from : ℕ) → AreRising from (cond (nat_le from only) (only ∷ []) [])
one_from only from =
    elim (nat_le from only) as (λ b. nat_le from only ≡ b → AreRising from (cond b (only ∷ []) [])) [
      | true ↦ λ e. (grind (arith, nat_tests), tt)
      | false ↦ λ e. tt
    ] refl

one_same : (q only from : ℕ) → from ≤ q → list_any (nat_eq q) (cond (nat_le from only) (only ∷ []) []) ≡ nat_eq only q
one_same q only from low =
    elim (nat_le from only) as (λ b. nat_le from only ≡ b → list_any (nat_eq q) (cond b (only ∷ []) []) ≡ nat_eq only q) [
      | true ↦ λ e. alone q only
      | false ↦ λ e. below q only from (grind (arith, nat_tests)) low
    ] refl

pub from_one : (set : PlaceSet) (only from : ℕ) (places : List ℕ) → set ≡ One only → places ≡ cond (nat_le from only) (only ∷ []) [] → AreFrom set from places
from_one set only from places is all = record {
  rising = subst (AreRising from) (sym all) (one_from only from);
  same = λ q low. ap (list_any (nat_eq q)) all ∙ one_same q only from low ∙ ap (λ s. has_place s q) (sym is);
}

pub from_two : (set : PlaceSet) (one other from : ℕ) (made places : List ℕ) → set ≡ Two one other → places ≡ made → AreRising from made
    → ((q : ℕ) → from ≤ q → list_any (nat_eq q) made ≡ (nat_eq one q || nat_eq other q)) → AreFrom set from places
from_two set one other from made places is all rising same = record {
  rising = subst (AreRising from) (sym all) rising;
  same = λ q low. ap (list_any (nat_eq q)) all ∙ same q low ∙ ap (λ s. has_place s q) (sym is);
}

pub from_few : (set : PlaceSet) (few : List ℕ) (from : ℕ) (made places : List ℕ) → set ≡ Few few → places ≡ made → AreRising from made
    → ((q : ℕ) → from ≤ q → list_any (nat_eq q) made ≡ list_any (nat_eq q) few) → AreFrom set from places
from_few set few from made places is all rising same = record {
  rising = subst (AreRising from) (sym all) rising;
  same = λ q low. ap (list_any (nat_eq q)) all ∙ same q low ∙ ap (λ s. has_place s q) (sym is);
}

pub from_many : (set : PlaceSet) (all : BTreeSet ℕ) (from : ℕ) (places : List ℕ) → set ≡ Many all → places ≡ filter (is_later from) all.keys → IsStrictlySortedBy nat_cmp all.keys → AreFrom set from places
from_many set all from places is those sorted = record {
  rising = subst (AreRising from) (sym those) (later_rise from all.keys sorted);
  same = λ q low. ap (list_any (nat_eq q)) those ∙ later_same from q all.keys low ∙ ap (λ s. has_place s q) (sym is);
}
