-- Counts of one list with the difference to another: what leaves 0, or reaches it, is the
-- difference of the two lists, each byte string once.
use Rattle.std.proofs.Common.{◌≡◌, ℕ, zero, suc, ◌+◌, ◌-◌, ◌<◌, ◌≤◌, ◌^◌, Bool, true, false, cond, not, ◌&&◌, T}
use Rattle.std.proofs.Common.{List, [], ◌∷◌, ◌++◌, map, length, refl, sym, ◌∙◌, ap, arith}
use Rattle.std.proofs.Common.{append-nil, append_assoc, zero-add}
use Rattle.std.specs.Prelude.{ℤ, pos, negsuc, ◌-ℤ◌, Option, Some}
use Rattle.std.specs.Option.{unwrap_or}
use Rattle.std.specs.List.{filter, flat_map, AllByRecursion}
use Rattle.std.specs.List.Sorted.{IsStrictlySortedBy}
use Rattle.std.specs.Ordering.{nat_cmp, is_lt, is_eq}
use Rattle.std.specs.declared.cmp.Ordering.{Ordering}
use Rattle.std.specs.declared.cmp.Ordering.TheVariants.{Less, Equal, Greater}
use Rattle.std.specs.Cmp.Lexicographic.{slice_cmp, texts_ties}
use Rattle.std.specs.FinMap.{find, entries, entries_sorted, from_sorted, is_sorted}
use Rattle.std.specs.FinMap.{entries-from_sorted, get-from_sorted, get-entries}
use Rattle.std.specs.FinMap.Entries.{below_all}
use Rattle.std.specs.Str.{bytes_eq}
use Rattle.std.proofs.lemmas.Int.{ints}
use Rattle.ncq_base.specs.Keys.{ByBytes, times}
use Rattle.ncq_base.proofs.Keyed.{bytes_apart, is_key_equiv}
use Rattle.ncq_base.proofs.Tests.{both_true}
use Rattle.ncq_base.proofs.Totals.{told, untold, no_tie, is_equal}
use Rattle.ncq_bag.specs.Bags.{count_of, count_in, surplus, tally, difference, differences, difference_of}
use Rattle.ncq_bag.specs.Counts.{stands, changed, Fits, after, after_one, turn, turn_of}
use Rattle.ncq_bag.specs.Counts.{AreCountsOf, each_once, TellsDistinct}
use Rattle.ncq_bag.specs.declared.bag.Difference.{Difference}
use Rattle.ncq_bag.proofs.Tallies.{differences_alike, tally_is}
use Rattle.ncq_bag.proofs.CountLaws.{stands_with}

abbrev R : List ℕ → List ℕ → Ordering
R = slice_cmp nat_cmp

abbrev Pairs : Type 0
Pairs = List (List ℕ × ℤ)

abbrev keys_in : List Difference → List (List ℕ)
keys_in ds = map (λ d. d.bytes) ds

is_less : (r : Ordering) → is_lt r ≡ true → r ≡ Less
is_less Less h = refl
is_less Equal h = cc
is_less Greater h = cc

-- what a difference makes of a count
abbrev moved : ℕ → ℤ → ℕ
moved n (pos m) = n + m
moved n (negsuc m) = n - suc m

moved_back : (a b : ℕ) (z : ℤ) → z ≡ pos a -ℤ pos b → moved b z ≡ a
moved_back a b (pos m) is = omega (arith, ints)
moved_back a b (negsuc m) is = omega (arith, ints)

-- 1 where there is some, 0 where there is none
abbrev one : ℕ → ℕ
one zero = zero
one (suc n) = 1

-- what leaves 0 or reaches it, as a number
abbrev turned : ℕ → ℕ → ℤ
turned zero zero = pos 0
turned zero (suc m) = pos 1
turned (suc n) zero = negsuc 0
turned (suc n) (suc m) = pos 0

turn_is : (key : List ℕ) (n m : ℕ) → turn key n m ≡ difference_of (key, turned n m)
turn_is key zero zero = refl
turn_is key zero (suc m) = refl
turn_is key (suc n) zero = refl
turn_is key (suc n) (suc m) = refl

turned_same : (n : ℕ) → turned n n ≡ pos 0
turned_same zero = refl
turned_same (suc n) = refl

turned_ones : (b a : ℕ) → turned b a ≡ pos (one a) -ℤ pos (one b)
turned_ones zero zero = omega (arith, ints)
turned_ones zero (suc m) = omega (arith, ints)
turned_ones (suc n) zero = omega (arith, ints)
turned_ones (suc n) (suc m) = omega (arith, ints)

-- the byte strings of the differences rise, as those of the counts

above_all : (key : List ℕ) (es : Pairs) → below_all R key es ≡ true
    → AllByRecursion (λ q. R key q ≡ Less) (keys_in (flat_map difference_of es))
above_all key [] h = tt
above_all key ((k, pos zero) ∷ es) h =
    above_all key es (both_true (is_lt (R key k)) (below_all R key es) h).1
above_all key ((k, pos (suc n)) ∷ es) h =
    let b = both_true (is_lt (R key k)) (below_all R key es) h in
    (is_less (R key k) b.0, above_all key es b.1)
above_all key ((k, negsuc n) ∷ es) h =
    let b = both_true (is_lt (R key k)) (below_all R key es) h in
    (is_less (R key k) b.0, above_all key es b.1)

differences_rise : (es : Pairs) → is_sorted R es ≡ true
    → IsStrictlySortedBy R (keys_in (flat_map difference_of es))
unfolding IsStrictlySortedBy
differences_rise [] h = tt
differences_rise ((k, pos zero) ∷ es) h =
    differences_rise es (both_true (below_all R k es) (is_sorted R es) h).1
differences_rise ((k, pos (suc n)) ∷ es) h =
    let b = both_true (below_all R k es) (is_sorted R es) h in
    (above_all k es b.0, differences_rise es b.1)
differences_rise ((k, negsuc n) ∷ es) h =
    let b = both_true (below_all R k es) (is_sorted R es) h in
    (above_all k es b.0, differences_rise es b.1)

pub differences_are_rising : (counts : ByBytes ℤ)
    → IsStrictlySortedBy (slice_cmp nat_cmp) (map (λ d. d.bytes) (differences counts))
differences_are_rising counts =
    differences_rise (entries counts) (told (is_sorted R (entries counts)) (entries_sorted counts))

pub difference_is_rising : (now before : List (List ℕ))
    → IsStrictlySortedBy (slice_cmp nat_cmp) (map (λ d. d.bytes) (difference now before))
unfolding difference
difference_is_rising now before = differences_are_rising (tally now before)

-- what stands after the differences

abbrev found : List ℕ → Pairs → ℤ
found q es = unwrap_or (find R q es) (pos 0)

moved_none : (n : ℕ) (z : ℤ) → z ≡ pos 0 → moved n z ≡ n
moved_none n z is = ap (moved n) is ∙ none n
  where
    none : (n : ℕ) → n + 0 ≡ n
    none n = omega arith

-- one count was set, and the others go on
goes_on : (counts : ByBytes ℕ) (k : List ℕ) (z : ℤ) (es : Pairs) (q : List ℕ) → below_all R k es ≡ true
    → moved (cond (bytes_eq q k) (moved (stands counts k) z) (stands counts q)) (found q es)
    ≡ moved (stands counts q) (unwrap_or (cond (is_eq (R q k)) (Some z) (find R q es)) (pos 0))
goes_on counts k z es q low =
    ap (λ (t : Bool). moved (cond t (moved (stands counts k) z) (stands counts q)) (found q es)) (texts_ties q k)
    ∙ elim (R q k) as
    (λ r. R q k ≡ r → moved (cond (is_eq r) (moved (stands counts k) z) (stands counts q)) (found q es)
    ≡ moved (stands counts q) (unwrap_or (cond (is_eq r) (Some z) (find R q es)) (pos 0))) [
      | Less ↦ λ p. refl
      | Equal ↦ λ p.
          let same : q ≡ k = bytes_apart q k p in
          let none : found q es ≡ pos 0 =
          ap (λ (o : Option ℤ). unwrap_or o (pos 0)) (ap (λ (x : List ℕ). find R x es) same ∙ no_tie k es low) in
          moved_none (moved (stands counts k) z) (found q es) none
          ∙ ap (λ (x : List ℕ). moved (stands counts x) z) (sym same)
      | Greater ↦ λ p. refl
    ] refl

stands_after : (es : Pairs) (counts : ByBytes ℕ) (q : List ℕ) → is_sorted R es ≡ true
    → stands (after counts (flat_map difference_of es)) q ≡ moved (stands counts q) (found q es)
stands_after [] counts q h = sym (moved_none (stands counts q) (pos 0) refl)
stands_after ((k, pos zero) ∷ es) counts q h =
    let b = both_true (below_all R k es) (is_sorted R es) h in
    stands_after es counts q b.1
    ∙ ap (λ (n : ℕ). moved n (found q es)) (same (bytes_eq q k) refl)
    ∙ goes_on counts k (pos zero) es q b.0
  where
    same : (t : Bool) → bytes_eq q k ≡ t
        → stands counts q ≡ cond (bytes_eq q k) (stands counts k + 0) (stands counts q)
    same true p =
        ap (stands counts) (bytes_apart q k (is_equal (R q k) (sym (texts_ties q k) ∙ p)))
        ∙ sym (moved_none (stands counts k) (pos 0) refl)
        ∙ (λ i. cond (sym p i) (stands counts k + 0) (stands counts q))
    same false p = λ i. cond (sym p i) (stands counts k + 0) (stands counts q)
stands_after ((k, pos (suc n)) ∷ es) counts q h =
    let b = both_true (below_all R k es) (is_sorted R es) h in
    let d : Difference = record { gain = true; count = suc n; bytes = k } in
    stands_after es (after_one counts d) q b.1
    ∙ ap (λ (m : ℕ). moved m (found q es)) (stands_with counts k (stands counts k + suc n) q)
    ∙ goes_on counts k (pos (suc n)) es q b.0
stands_after ((k, negsuc n) ∷ es) counts q h =
    let b = both_true (below_all R k es) (is_sorted R es) h in
    let d : Difference = record { gain = false; count = suc n; bytes = k } in
    stands_after es (after_one counts d) q b.1
    ∙ ap (λ (m : ℕ). moved m (found q es)) (stands_with counts k (changed (stands counts k) false (suc n)) q)
    ∙ goes_on counts k (negsuc n) es q b.0

-- each difference can be made

found_behind : (first : List ℕ × ℤ) (all es : Pairs) → below_all R first.0 es ≡ true
    → AllByRecursion (λ (e : List ℕ × ℤ). find R e.0 all ≡ Some e.1) es
    → AllByRecursion (λ (e : List ℕ × ℤ). find R e.0 (first ∷ all) ≡ Some e.1) es
found_behind first all [] h k = tt
found_behind first all (e ∷ es) h k =
    let b = both_true (is_lt (R first.0 e.0)) (below_all R first.0 es) h in
    let apart : is_eq (R e.0 first.0) ≡ false =
    sym (texts_ties e.0 first.0) ∙ is_key_equiv.symm e.0 first.0 ∙ texts_ties first.0 e.0
    ∙ ap is_eq (is_less (R first.0 e.0) b.0) in
    ((λ i. cond (apart i) (Some first.1) (find R e.0 all)) ∙ k.0, found_behind first all es b.1 k.1)

found_each : (es : Pairs) → is_sorted R es ≡ true
    → AllByRecursion (λ (e : List ℕ × ℤ). find R e.0 es ≡ Some e.1) es
found_each [] h = tt
found_each (e ∷ es) h =
    let b = both_true (below_all R e.0 es) (is_sorted R es) h in
    let here : is_eq (R e.0 e.0) ≡ true = sym (texts_ties e.0 e.0) ∙ is_key_equiv.refl e.0 in
    ((λ i. cond (here i) (Some e.1) (find R e.0 es)), found_behind e es es b.0 (found_each es b.1))

at_most : (q : List ℕ) (strings : List (List ℕ)) → count_in q strings ≤ length strings
at_most q [] = omega arith
at_most q (s ∷ strings) = elim (bytes_eq q s) as (λ t. cond t 1 0 + count_in q strings ≤ suc (length strings)) [
  | true ↦ let h = at_most q strings in omega arith
  | false ↦ let h = at_most q strings in omega arith
]

gain_fits : (a b n : ℕ) → pos (suc n) ≡ pos a -ℤ pos b → a < 2 ^ 64 → b + suc n < 2 ^ 64
gain_fits a b n is small = omega (arith, ints)

loss_fits : (a b n : ℕ) → negsuc n ≡ pos a -ℤ pos b → suc n ≤ b
loss_fits a b n is = omega (arith, ints)

module _ (counts : ByBytes ℕ) (now before : List (List ℕ)) (are : AreCountsOf counts before) where
  abbrev IsSurplus : List ℕ × ℤ → Type 0
  IsSurplus e = e.1 ≡ surplus now before e.0

  same_surplus : (k : List ℕ) → surplus now before k ≡ pos (count_in k now) -ℤ pos (stands counts k)
  same_surplus k = ap (λ (n : ℕ). pos (count_in k now) -ℤ pos n) (sym (are k))

  all_fit : (es : Pairs) → AllByRecursion IsSurplus es → length now < 2 ^ 64
      → AllByRecursion (Fits counts) (flat_map difference_of es)
  all_fit [] is few = tt
  all_fit ((k, pos zero) ∷ es) is few = all_fit es is.1 few
  all_fit ((k, pos (suc n)) ∷ es) is few =
      let most = at_most k now in
      let small : count_in k now < 2 ^ 64 = omega arith in
      (gain_fits (count_in k now) (stands counts k) n (is.0 ∙ same_surplus k) small, all_fit es is.1 few)
  all_fit ((k, negsuc n) ∷ es) is few =
      (loss_fits (count_in k now) (stands counts k) n (is.0 ∙ same_surplus k), all_fit es is.1 few)

  surpluses : (es : Pairs)
      → AllByRecursion (λ (e : List ℕ × ℤ). find R e.0 (entries (tally now before)) ≡ Some e.1) es
      → AllByRecursion IsSurplus es
  surpluses [] h = tt
  surpluses (e ∷ es) h = (
    sym (ap (λ (o : Option ℤ). unwrap_or o (pos 0)) (get-entries (tally now before) e.0 ∙ h.0))
        ∙ tally_is now before e.0,
    surpluses es h.1,
  )

-- what turns, as a map

module _ (counts : ByBytes ℕ) where
  abbrev turned_at : List ℕ → ℤ → ℤ
  turned_at k z = turned (stands counts k) (moved (stands counts k) z)

  abbrev turned_pair : List ℕ × ℤ → List ℕ × ℤ
  turned_pair e = (e.0, turned_at e.0 e.1)

  one_turn : (k : List ℕ) (z : ℤ)
      → flat_map (turn_of counts) (difference_of (k, z)) ≡ difference_of (turned_pair (k, z))
  one_turn k (pos zero) =
      ap (λ (w : ℤ). difference_of (k, w))
      (sym (turned_same (stands counts k))
      ∙ ap (turned (stands counts k)) (sym (moved_none (stands counts k) (pos 0) refl)))
  one_turn k (pos (suc n)) = append-nil _ ∙ turn_is k (stands counts k) (stands counts k + suc n)
  one_turn k (negsuc n) = append-nil _ ∙ turn_is k (stands counts k) (changed (stands counts k) false (suc n))

  flat_map_append : (xs ys : List Difference)
      → flat_map (turn_of counts) (xs ++ ys) ≡ flat_map (turn_of counts) xs ++ flat_map (turn_of counts) ys
  flat_map_append [] ys = refl
  flat_map_append (x ∷ xs) ys =
      ap (λ (ds : List Difference). turn_of counts x ++ ds) (flat_map_append xs ys)
      ∙ sym (append_assoc (turn_of counts x) (flat_map (turn_of counts) xs) (flat_map (turn_of counts) ys))

  all_turns : (es : Pairs)
      → flat_map (turn_of counts) (flat_map difference_of es) ≡ flat_map difference_of (map turned_pair es)
  all_turns [] = refl
  all_turns ((k, z) ∷ es) =
      flat_map_append (difference_of (k, z)) (flat_map difference_of es)
      ∙ (λ i. one_turn k z i ++ all_turns es i)

  pairs_below : (key : List ℕ) (es : Pairs) → below_all R key (map turned_pair es) ≡ below_all R key es
  pairs_below key [] = refl
  pairs_below key (e ∷ es) = ap (λ (b : Bool). is_lt (R key e.0) && b) (pairs_below key es)

  pairs_sorted : (es : Pairs) → is_sorted R (map turned_pair es) ≡ is_sorted R es
  pairs_sorted [] = refl
  pairs_sorted (e ∷ es) = λ i. pairs_below e.0 es i && pairs_sorted es i

  pairs_found : (q : List ℕ) (es : Pairs) → found q (map turned_pair es) ≡ turned_at q (found q es)
  pairs_found q [] =
      sym (turned_same (stands counts q))
      ∙ ap (turned (stands counts q)) (sym (moved_none (stands counts q) (pos 0) refl))
  pairs_found q (e ∷ es) =
      elim (R q e.0) as
      (λ r. R q e.0 ≡ r
      → unwrap_or (cond (is_eq r) (Some (turned_at e.0 e.1)) (find R q (map turned_pair es))) (pos 0)
      ≡ turned_at q (unwrap_or (cond (is_eq r) (Some e.1) (find R q es)) (pos 0))) [
        | Less ↦ λ p. pairs_found q es
        | Equal ↦ λ p. ap (λ (k : List ℕ). turned_at k e.1) (sym (bytes_apart q e.0 p))
        | Greater ↦ λ p. pairs_found q es
      ] refl

-- how often a byte string stands in a list that has each once

taken_out : (q s : List ℕ) (xs : List (List ℕ))
    → times (bytes_eq q) (filter (λ x. not (bytes_eq s x)) xs) ≡ cond (bytes_eq q s) 0 (times (bytes_eq q) xs)
taken_out q s [] = elim (bytes_eq q s) as (λ t. ◌≡◌ {A = ℕ} 0 (cond t 0 0)) [ true ↦ refl | false ↦ refl ]
taken_out q s (x ∷ xs) =
    let others = filter (λ y. not (bytes_eq s y)) xs in
    elim (bytes_eq s x) as
    (λ t. bytes_eq s x ≡ t → times (bytes_eq q) (cond (not t) (x ∷ others) others)
    ≡ cond (bytes_eq q s) 0 (cond (bytes_eq q x) 1 0 + times (bytes_eq q) xs)) [
      | true ↦ λ p. taken_out q s xs ∙ gone (bytes_eq q s) (times (bytes_eq q) xs) refl p
      | false ↦ λ p.
          ap (λ n. cond (bytes_eq q x) 1 0 + n) (taken_out q s xs)
          ∙ stays (bytes_eq q s) (times (bytes_eq q) xs) refl p
    ] refl
  where
    same : bytes_eq s x ≡ true → bytes_eq q x ≡ bytes_eq q s
    same p = ap (bytes_eq q) (sym (bytes_apart s x (is_equal (R s x) (sym (texts_ties s x) ∙ p))))

    gone : (t : Bool) (n : ℕ) → bytes_eq q s ≡ t → bytes_eq s x ≡ true
        → cond t 0 n ≡ cond t 0 (cond (bytes_eq q x) 1 0 + n)
    gone true n e p = refl
    gone false n e p = sym ((λ i. cond ((same p ∙ e) i) 1 0 + n) ∙ zero-add n)

    stays : (t : Bool) (n : ℕ) → bytes_eq q s ≡ t → bytes_eq s x ≡ false
        → cond (bytes_eq q x) 1 0 + cond t 0 n ≡ cond t 0 (cond (bytes_eq q x) 1 0 + n)
    stays true n e p =
        let same : q ≡ s = bytes_apart q s (is_equal (R q s) (sym (texts_ties q s) ∙ e)) in
        let other : bytes_eq q x ≡ false = ap (λ (k : List ℕ). bytes_eq k x) same ∙ p in
        (λ i. cond (other i) 1 0 + 0)
    stays false n e p = refl

one_more_one : (n : ℕ) → one (1 + n) ≡ 1
one_more_one n = ap one (plus n)
  where
    plus : (n : ℕ) → 1 + n ≡ suc n
    plus n = omega arith

once_is : (q : List ℕ) (xs : List (List ℕ)) → count_in q (each_once xs) ≡ one (count_in q xs)
once_is q [] = refl
once_is q (s ∷ xs) =
    ap (λ n. cond (bytes_eq q s) 1 0 + n)
    (taken_out q s (each_once xs) ∙ ap (cond (bytes_eq q s) 0) (once_is q xs))
    ∙ elim (bytes_eq q s) as
    (λ t. cond t 1 0 + cond t 0 (one (count_in q xs)) ≡ one (cond t 1 0 + count_in q xs)) [
      | true ↦ sym (one_more_one (count_in q xs))
      | false ↦ plain (count_in q xs)
    ]
  where
    plain : (n : ℕ) → 0 + one n ≡ one (0 + n)
    plain n = zero-add (one n) ∙ ap one (sym (zero-add n))

-- the law

module _ (counts : ByBytes ℕ) (now before : List (List ℕ)) (are : AreCountsOf counts before) where
  abbrev pairs : Pairs
  pairs = entries (tally now before)

  sorted : is_sorted R pairs ≡ true
  sorted = told (is_sorted R pairs) (entries_sorted (tally now before))

  found_is : (q : List ℕ) → found q pairs ≡ surplus now before q
  found_is q =
      ap (λ (o : Option ℤ). unwrap_or o (pos 0)) (sym (get-entries (tally now before) q)) ∙ tally_is now before q

  back : (q : List ℕ) → moved (stands counts q) (found q pairs) ≡ count_in q now
  back q =
      moved_back (count_in q now) (stands counts q) (found q pairs)
      (found_is q ∙ same_surplus counts now before are q)

  turned_up : T (is_sorted R (map (turned_pair counts) pairs))
  turned_up = untold _ (pairs_sorted counts pairs ∙ sorted)

  turned_map : ByBytes ℤ
  turned_map = from_sorted (map (turned_pair counts) pairs)

  turned_entries : entries turned_map ≡ map (turned_pair counts) pairs
  unfolding turned_map
  turned_entries = entries-from_sorted R (map (turned_pair counts) pairs) turned_up

  turned_count : (q : List ℕ) → count_of turned_map q ≡ count_of (tally (each_once now) (each_once before)) q
  unfolding turned_map
  turned_count q =
      ap (λ (o : Option ℤ). unwrap_or o (pos 0))
      (get-from_sorted R (map (turned_pair counts) pairs) q turned_up)
      ∙ pairs_found counts q pairs
      ∙ ap (turned (stands counts q)) (back q)
      ∙ ap (λ (b : ℕ). turned b (count_in q now)) (are q)
      ∙ turned_ones (count_in q before) (count_in q now)
      ∙ (λ i. pos (sym (once_is q now) i) -ℤ pos (sym (once_is q before) i))
      ∙ sym (tally_is (each_once now) (each_once before) q)

  pub tells_distinct : TellsDistinct counts now before
  unfolding difference
  tells_distinct = record {
    change = λ few. record {
      rising = differences_are_rising (tally now before);
      fits =
          all_fit counts now before are pairs (surpluses counts now before are pairs (found_each pairs sorted)) few;
    };
    turns =
        all_turns counts pairs ∙ ap (flat_map difference_of) (sym turned_entries)
        ∙ differences_alike turned_map (tally (each_once now) (each_once before)) turned_count;
    after = λ q. stands_after pairs counts q sorted ∙ back q;
  }
