-- Numbers that fall, seen rising.
use Rattle.std.proofs.Common.{◌≡◌, ℕ, zero, suc, ◌<◌, ◌≤◌, ◌+◌, ◌-◌, ◌^◌, Bool, true, false, ◌||◌, nat_eq, List, [], ◌∷◌, ◌++◌, length, get_or, reverse, refl, sym, ap, ◌∙◌, subst, arith}
use Rattle.std.specs.Prelude.{Option, Some, None, IfSome, nat_lt}
use Rattle.std.specs.List.{insert}
use Rattle.std.specs.List.Sorted.{IsPartitionedBy}
use Rattle.std.specs.Option.{option_to_list}
use Rattle.std.proofs.lemmas.Bool.{eq-eqb}
use Rattle.std.proofs.lemmas.Bool.Decides.{nat_tests}
use Rattle.std.proofs.lemmas.List.Sorted.{IsPermutation-reverse, list_any-IsPermutation}
use Rattle.ncq_feed.specs.Falling.{AreFalling}
use Rattle.ncq_feed.specs.Runs.{is_among}

or_true : (b : Bool) → (b || true) ≡ true
or_true true = refl
or_true false = refl

or_swap : (a b c : Bool) → (a || (b || c)) ≡ (b || (a || c))
or_swap true b c = sym (or_true b)
or_swap false b c = refl

same_number : (p q : ℕ) → nat_eq p q ≡ true → p ≡ q
same_number p q h = grind (arith, nat_tests)

-- the numbers are the same in the other order
pub among_reverse : (q : ℕ) (xs : List ℕ) → is_among q (reverse xs) ≡ is_among q xs
among_reverse q xs = sym (list_any-IsPermutation (nat_eq q) xs (reverse xs) (IsPermutation-reverse xs))

-- each of falling numbers is below the bound
below_bound : (bound : ℕ) (xs : List ℕ) → AreFalling bound xs → (k d : ℕ) → k < length xs → get_or xs k d < bound
below_bound bound [] falling k d within = absurd (omega arith)
below_bound bound (x ∷ xs) falling zero d within = falling.0
below_bound bound (x ∷ xs) falling (suc k) d within = let first = falling.0 in let rest = below_bound x xs falling.1 k d (omega arith) in omega arith

-- none is above one in front of it
none_higher : (bound : ℕ) (xs : List ℕ) → AreFalling bound xs → (i j d : ℕ) → i ≤ j → j < length xs → get_or xs j d ≤ get_or xs i d
none_higher bound [] falling i j d before within = absurd (omega arith)
none_higher bound (x ∷ xs) falling zero zero d before within = omega arith
none_higher bound (x ∷ xs) falling zero (suc j) d before within = let rest = below_bound x xs falling.1 j d (omega arith) in omega arith
none_higher bound (x ∷ xs) falling (suc i) zero d before within = absurd (omega arith)
none_higher bound (x ∷ xs) falling (suc i) (suc j) d before within = none_higher x xs falling.1 i j d (omega arith) (omega arith)

above_test : (number x : ℕ) → number < x → nat_lt number x ≡ true
above_test number x h = grind (arith, nat_tests)

pub test_above : (number x : ℕ) → nat_lt number x ≡ true → number < x
test_above number x h = grind (arith, nat_tests)

pub test_within : (number x : ℕ) → nat_lt number x ≡ false → x ≤ number
test_within number x h = grind (arith, nat_tests)

-- those above a number stand in front
pub falling_parted : (bound number : ℕ) (xs : List ℕ) → AreFalling bound xs → IsPartitionedBy (λ x. nat_lt number x) xs
falling_parted bound number xs falling i j d before within is =
    above_test number (get_or xs i d)
    (let high = test_above number (get_or xs j d) is in let falls = none_higher bound xs falling i j d before within in omega arith)

-- the number is between those above it and those below it
pub falling_insert : (bound number at : ℕ) (xs : List ℕ) → AreFalling bound xs → at ≤ length xs → number < bound → ((k : ℕ) → k < at → number < get_or xs k 0)
    → (at < length xs → get_or xs at 0 < number) → AreFalling bound (insert xs at number)
falling_insert bound number zero [] f within h above below = (h, tt)
falling_insert bound number zero (x ∷ xs) f within h above below = (h, (below (omega arith), f.1))
falling_insert bound number (suc n) [] f within h above below = absurd (omega arith)
falling_insert bound number (suc n) (x ∷ xs) f within h above below =
    (f.0, falling_insert x number n xs f.1 (omega arith) (above 0 (omega arith)) (λ k less. above (suc k) (omega arith)) (λ less. below (omega arith)))

among_insert : (q number at : ℕ) (xs : List ℕ) → is_among q (insert xs at number) ≡ (nat_eq q number || is_among q xs)
among_insert q number zero xs = refl
among_insert q number (suc n) [] = refl
among_insert q number (suc n) (x ∷ xs) = ap (λ b. nat_eq q x || b) (among_insert q number n xs) ∙ or_swap (nat_eq q x) (nat_eq q number) (is_among q xs)

-- one number more
pub noted : (q number at : ℕ) (xs : List ℕ) → is_among q (reverse (insert xs at number)) ≡ (nat_eq q number || is_among q (reverse xs))
noted q number at xs = among_reverse q (insert xs at number) ∙ among_insert q number at xs ∙ ap (λ b. nat_eq q number || b) (sym (among_reverse q xs))

found : (q at : ℕ) (xs : List ℕ) → at < length xs → get_or xs at 0 ≡ q → is_among q xs ≡ true
found q at [] l e = absurd (omega arith)
found q zero (x ∷ xs) l e = ap (λ b. b || is_among q xs) (eq-eqb q x (sym e))
found q (suc n) (x ∷ xs) l e = ap (λ b. nat_eq q x || b) (found q n xs (omega arith) e) ∙ or_true (nat_eq q x)

-- a number that is there
pub noted_before : (q number at : ℕ) (xs : List ℕ) → at < length xs → get_or xs at 0 ≡ number → is_among q (reverse xs) ≡ (nat_eq q number || is_among q (reverse xs))
noted_before q number at xs l e =
    elim (nat_eq q number) as (λ b. nat_eq q number ≡ b → is_among q (reverse xs) ≡ (b || is_among q (reverse xs))) [
      | true ↦ λ t. among_reverse q xs ∙ found q at xs l (e ∙ sym (same_number q number t))
      | false ↦ λ t. refl
    ] refl

falling_front : (bound last : ℕ) (xs : List ℕ) → AreFalling bound (xs ++ last ∷ []) → AreFalling bound xs
falling_front bound last [] f = tt
falling_front bound last (x ∷ xs) f = (f.0, falling_front x last xs f.1)

last_below : (bound last : ℕ) (xs : List ℕ) → AreFalling bound (xs ++ last ∷ []) → last < bound
last_below bound last [] f = f.0
last_below bound last (x ∷ xs) f = let h = f.0 in let r = last_below x last xs f.1 in omega arith

last_least : (bound last : ℕ) (xs : List ℕ) → AreFalling bound (xs ++ last ∷ []) → (q : ℕ) → is_among q xs ≡ true → last < q
last_least bound last [] f q e = absurd (cc)
last_least bound last (x ∷ xs) f q e =
    elim (nat_eq q x) as (λ b. nat_eq q x ≡ b → (b || is_among q xs) ≡ true → last < q) [
      | true ↦ λ t. λ g. let s = same_number q x t in let r = last_below x last xs f.1 in omega arith
      | false ↦ λ t. λ g. last_least x last xs f.1 q g
    ] refl e

no_more : (xs : List ℕ) → xs ++ [] ≡ xs
no_more [] = refl
no_more (x ∷ xs) = ap (λ ys. x ∷ ys) (no_more xs)

-- what is left when the last is taken
pub left_falling : (bound : ℕ) (o : Option ℕ) (old new : List ℕ) → old ≡ new ++ option_to_list o → AreFalling bound old → AreFalling bound new
left_falling bound None old new e f = subst (AreFalling bound) (e ∙ no_more new) f
left_falling bound (Some x) old new e f = falling_front bound x new (subst (AreFalling bound) e f)

pub taken_least : (bound : ℕ) (o : Option ℕ) (old new : List ℕ) → old ≡ new ++ option_to_list o → AreFalling bound old
    → IfSome o (λ number. (other : ℕ) → is_among other (reverse new) ≡ true → number < other)
taken_least bound None old new e f = tt
taken_least bound (Some x) old new e f = λ other is. last_least bound x new (subst (AreFalling bound) e f) other (sym (among_reverse other new) ∙ is)

pub among_append : (q : ℕ) (xs ys : List ℕ) → is_among q (xs ++ ys) ≡ (is_among q xs || is_among q ys)
among_append q [] ys = refl
among_append q (x ∷ xs) ys = ap (λ b. nat_eq q x || b) (among_append q xs ys) ∙ shift (nat_eq q x) (is_among q xs) (is_among q ys)
  where
    shift : (a b c : Bool) → (a || (b || c)) ≡ ((a || b) || c)
    shift true b c = refl
    shift false b c = refl

-- a number more of a list
pub noted_more : (q number : ℕ) (front : List ℕ) (old middle new : List ℕ) → is_among q middle ≡ (is_among q front || is_among q old) → is_among q new ≡ (nat_eq q number || is_among q middle)
    → is_among q new ≡ (is_among q (front ++ number ∷ []) || is_among q old)
noted_more q number front old middle new m n =
    n ∙ ap (λ b. nat_eq q number || b) m ∙ turn (nat_eq q number) (is_among q front) (is_among q old) ∙ ap (λ b. b || is_among q old) (sym (among_append q front (number ∷ [])))
  where
    turn : (a b c : Bool) → (a || (b || c)) ≡ ((b || (a || false)) || c)
    turn true true c = refl
    turn true false c = refl
    turn false true c = refl
    turn false false c = refl

-- of numbers of which some are left, those that are taken one by one
pub noted_rest : (q number : ℕ) (rest all old middle new : List ℕ) → (is_among q (number ∷ rest) || is_among q middle) ≡ (is_among q all || is_among q old) → is_among q new ≡ (nat_eq q number || is_among q middle)
    → (is_among q rest || is_among q new) ≡ (is_among q all || is_among q old)
noted_rest q number rest all old middle new m n =
    ap (λ b. is_among q rest || b) n ∙ turn (is_among q rest) (nat_eq q number) (is_among q middle) ∙ m
  where
    turn : (a b c : Bool) → (a || (b || c)) ≡ ((b || a) || c)
    turn true true c = refl
    turn true false c = refl
    turn false true c = refl
    turn false false c = refl

-- how far the first number is below 2 ^ 64; where there is none, 0
abbrev pub room_above : List ℕ → ℕ
room_above [] = 0
room_above (number ∷ rest) = 2 ^ 64 - number

-- it falls from turn to turn
pub room_falls : (at : ℕ) (keys rest after : List ℕ) → keys ≡ at ∷ rest → at < 2 ^ 64 → ((other : ℕ) → is_among other after ≡ true → at + 1 ≤ other) → room_above after < room_above keys
room_falls at keys rest after is within ahead = subst (λ numbers. room_above after < room_above numbers) (sym is) (below_first after ahead)
  where
    below_first : (after : List ℕ) → ((other : ℕ) → is_among other after ≡ true → at + 1 ≤ other) → room_above after < room_above (at ∷ rest)
    below_first [] ahead = omega arith
    below_first (number ∷ after) ahead = let l = ahead number (ap (λ b. b || is_among number after) (eq-eqb number number refl)) in omega arith
