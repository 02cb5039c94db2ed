-- Rising places: one more, one less, and those from one on.
use Rattle.std.proofs.Common.{◌≡◌, ℕ, zero, suc, ◌+◌, ◌<◌, ◌≤◌, ◌||◌, Bool, true, false, cond, not, List, [], ◌∷◌, length, drop, get_or, ap, refl, sym, subst, ◌∙◌, add-one, arith}
use Rattle.std.specs.Prelude.{nat_eq, Option, IfSome, IsTrue}
use Rattle.std.specs.List.{list_any, filter, insert, slice_get}
use Rattle.std.specs.BTreeMap.{is_at}
use Rattle.std.specs.Ordering.{nat_cmp}
use Rattle.std.proofs.Math.Seq.{drop-cons}
use Rattle.std.proofs.lemmas.Bool.Decides.{nat_tests}
use Rattle.ncq_midfile.specs.Content.{AreRising}
use Rattle.ncq_midfile.proofs.Parts.{rising_from}

or_true : (b : Bool) → (b || true) ≡ true
or_true true = refl
or_true false = refl

or_swap : (a b c : Bool) → (a || (b || c)) ≡ (b || (a || c))
or_swap true b c = sym (or_true b)
or_swap false b c = refl

unequal : (q x : ℕ) → x < q → nat_eq q x ≡ false
unequal q x h = grind (arith, nat_tests)

equal : (q x : ℕ) → x ≡ q → nat_eq q x ≡ true
equal q x h = grind (arith, nat_tests)

same_number : (p q : ℕ) → nat_eq p q ≡ true → p ≡ q
same_number p q h = grind (arith, nat_tests)

put_test : (q place : ℕ) (b : Bool) → (nat_eq q place || b) ≡ cond (nat_eq place q) true b
put_test q place b = grind (arith, nat_tests)

-- the place is between those below it and those above it
pub rising_insert : (low place at : ℕ) (xs : List ℕ) → AreRising low xs → at ≤ length xs → low ≤ place → ((k : ℕ) → k < at → get_or xs k 0 < place)
    → (at < length xs → place < get_or xs at 0) → AreRising low (insert xs at place)
rising_insert low place zero [] r within h below above = (h, tt)
rising_insert low place zero (x ∷ xs) r within h below above = (h, (let a : place < x = above (omega arith) in omega arith, r.1))
rising_insert low place (suc n) [] r within h below above = absurd (omega arith)
rising_insert low place (suc n) (x ∷ xs) r within h below above =
    let b : x < place = below 0 (omega arith) in
    (r.0, rising_insert (x + 1) place n xs r.1 (omega arith) (omega arith) (λ k less. below (suc k) (omega arith)) (λ less. above (omega arith)))

any_insert : (q place at : ℕ) (xs : List ℕ) → list_any (nat_eq q) (insert xs at place) ≡ (nat_eq q place || list_any (nat_eq q) xs)
any_insert q place zero xs = refl
any_insert q place (suc n) [] = refl
any_insert q place (suc n) (x ∷ xs) = ap (λ b. nat_eq q x || b) (any_insert q place n xs) ∙ or_swap (nat_eq q x) (nat_eq q place) (list_any (nat_eq q) xs)

pub any_put : (q place at : ℕ) (xs : List ℕ) → list_any (nat_eq q) (insert xs at place) ≡ cond (nat_eq place q) true (list_any (nat_eq q) xs)
any_put q place at xs = any_insert q place at xs ∙ put_test q place (list_any (nat_eq q) xs)

found : (q at : ℕ) (xs : List ℕ) → at < length xs → get_or xs at 0 ≡ q → list_any (nat_eq q) xs ≡ true
found q at [] l e = absurd (omega arith)
found q zero (x ∷ xs) l e = ap (λ b. b || list_any (nat_eq q) xs) (equal q x e)
found q (suc n) (x ∷ xs) l e = ap (λ b. nat_eq q x || b) (found q n xs (omega arith) e) ∙ or_true (nat_eq q x)

-- a place that is there
pub any_stays : (q place at : ℕ) (xs : List ℕ) → at < length xs → get_or xs at 0 ≡ place → list_any (nat_eq q) xs ≡ cond (nat_eq place q) true (list_any (nat_eq q) xs)
any_stays q place at xs l e =
    elim (nat_eq place q) as (λ b. nat_eq place q ≡ b → list_any (nat_eq q) xs ≡ cond b true (list_any (nat_eq q) xs)) [
      | true ↦ λ t. found q at xs l (e ∙ same_number place q t)
      | false ↦ λ t. refl
    ] refl

pub rising_filter : (low : ℕ) (test : ℕ → Bool) (xs : List ℕ) → AreRising low xs → AreRising low (filter test xs)
rising_filter low test [] r = tt
rising_filter low test (x ∷ xs) r =
    elim (test x) as (λ b. AreRising low (cond b (x ∷ filter test xs) (filter test xs))) [
      | true ↦ (r.0, rising_filter (x + 1) test xs r.1)
      | false ↦ let h = r.0 in rising_filter low test xs (rising_from low (x + 1) xs (omega arith) r.1)
    ]

without : (q place x : ℕ) (kept all : Bool) → nat_eq x place ≡ true → kept ≡ cond (nat_eq place q) false all → kept ≡ cond (nat_eq place q) false (nat_eq q x || all)
without q place x kept all e h = grind (arith, nat_tests)

with : (q place x : ℕ) (kept all : Bool) → nat_eq x place ≡ false → kept ≡ cond (nat_eq place q) false all → (nat_eq q x || kept) ≡ cond (nat_eq place q) false (nat_eq q x || all)
with q place x kept all e h = grind (arith, nat_tests)

pub any_without : (q place : ℕ) (xs : List ℕ) → list_any (nat_eq q) (filter (λ x. not (nat_eq x place)) xs) ≡ cond (nat_eq place q) false (list_any (nat_eq q) xs)
any_without q place [] = elim (nat_eq place q) as (λ b. false ≡ cond b false false) [ true ↦ refl | false ↦ refl ]
any_without q place (x ∷ xs) =
    let rest = filter (λ x. not (nat_eq x place)) xs in
    elim (nat_eq x place) as (λ b. nat_eq x place ≡ b → list_any (nat_eq q) (cond (not b) (x ∷ rest) rest) ≡ cond (nat_eq place q) false (nat_eq q x || list_any (nat_eq q) xs)) [
      | true ↦ λ e. without q place x (list_any (nat_eq q) rest) (list_any (nat_eq q) xs) e (any_without q place xs)
      | false ↦ λ e. with q place x (list_any (nat_eq q) rest) (list_any (nat_eq q) xs) e (any_without q place xs)
    ] refl

-- those from one on, where those in front are below it
pub rising_rest : (low from at : ℕ) (xs : List ℕ) → AreRising low xs → (at < length xs → from ≤ get_or xs at 0) → AreRising from (drop at xs)
rising_rest low from zero [] r above = tt
rising_rest low from zero (x ∷ xs) r above = (above (omega arith), r.1)
rising_rest low from (suc n) [] r above = tt
rising_rest low from (suc n) (x ∷ xs) r above = rising_rest (x + 1) from n xs r.1 (λ less. above (omega arith))

pub any_rest : (q from at : ℕ) (xs : List ℕ) → at ≤ length xs → ((k : ℕ) → k < at → get_or xs k 0 < from) → from ≤ q → list_any (nat_eq q) (drop at xs) ≡ list_any (nat_eq q) xs
any_rest q from zero xs within below low = refl
any_rest q from (suc n) [] within below low = refl
any_rest q from (suc n) (x ∷ xs) within below low =
    let b : x < from = below 0 (omega arith) in
    any_rest q from n xs (omega arith) (λ k less. below (suc k) (omega arith)) low ∙ ap (λ t. t || list_any (nat_eq q) xs) (sym (unequal q x (omega arith)))

-- no place is below the first
pub first_least : (low q : ℕ) (xs : List ℕ) → AreRising low xs → list_any (nat_eq q) xs ≡ true → low ≤ q
first_least low q [] r e = absurd (cc)
first_least low q (x ∷ xs) r e =
    elim (nat_eq q x) as (λ b. nat_eq q x ≡ b → (b || list_any (nat_eq q) xs) ≡ true → low ≤ q) [
      | true ↦ λ t. λ f. let s = same_number q x t in let h = r.0 in omega arith
      | false ↦ λ t. λ f. let h = r.0 in let l = first_least (x + 1) q xs r.1 f in omega arith
    ] refl e

pub first_first : (from : ℕ) (ys all : List ℕ) (r : Option ℕ) → r ≡ slice_get ys 0 → AreRising from ys → ((q : ℕ) → from ≤ q → list_any (nat_eq q) ys ≡ list_any (nat_eq q) all)
    → IfSome r (λ place. (q : ℕ) → from ≤ q → IsTrue (list_any (nat_eq q) all) → place ≤ q)
first_first from [] all r e rising same = subst (λ (o : Option ℕ). IfSome o (λ place. (q : ℕ) → from ≤ q → IsTrue (list_any (nat_eq q) all) → place ≤ q)) (sym e) tt
first_first from (y ∷ ys) all r e rising same =
    let own : y ≤ y = omega arith in
    subst (λ (o : Option ℕ). IfSome o (λ place. (q : ℕ) → from ≤ q → IsTrue (list_any (nat_eq q) all) → place ≤ q)) (sym e)
    (λ q low there. first_least y q (y ∷ ys) (own, rising.1) (same q low ∙ there))

any_next : (q at : ℕ) (xs : List ℕ) → at < length xs → list_any (nat_eq q) (drop at xs) ≡ (nat_eq q (get_or xs at 0) || list_any (nat_eq q) (drop (at + 1) xs))
any_next q at xs less = rw add-one (ap (list_any (nat_eq q)) (drop-cons xs at 0 less))

pass_on : (q x : ℕ) (rest old new all : Bool) → new ≡ cond (nat_eq x q) true old → ((nat_eq q x || rest) || old) ≡ all → (rest || new) ≡ all
pass_on q x rest old new all e h = grind (arith, nat_tests)

at_is : (x q : ℕ) → is_at (nat_cmp x) q ≡ nat_eq x q
at_is x q = grind (arith, nat_tests)

-- the place has gone over from the list
pub one_over : (q at : ℕ) (xs : List ℕ) (old new all : Bool) → at < length xs → new ≡ cond (is_at (nat_cmp (get_or xs at 0)) q) true old
    → (list_any (nat_eq q) (drop at xs) || old) ≡ all → (list_any (nat_eq q) (drop (at + 1) xs) || new) ≡ all
one_over q at xs old new all less e h =
    let x = get_or xs at 0 in
    pass_on q x (list_any (nat_eq q) (drop (at + 1) xs)) old new all (e ∙ ap (λ b. cond b true old) (at_is x q)) (ap (λ b. b || old) (sym (any_next q at xs less)) ∙ h)
