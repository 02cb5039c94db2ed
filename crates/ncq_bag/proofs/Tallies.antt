-- Counts that agree at each key leave the same differences.
use Rattle.std.proofs.Common.{◌≡◌, ℕ, zero, suc, ◌+◌, Bool, true, false, cond, ◌&&◌, T, List, [], ◌∷◌, ◌++◌, map, refl, sym, ◌∙◌, ap, arith, add_assoc, zero-add}
use Rattle.std.specs.Prelude.{ℤ, pos, negsuc, ◌-ℤ◌, Option, Some, None}
use Rattle.std.specs.Option.{unwrap_or}
use Rattle.std.specs.List.{filter, flat_map}
use Rattle.std.specs.Ordering.{nat_cmp, is_lt, is_eq}
use Rattle.std.specs.declared.cmp.Ordering.{Ordering}
use Rattle.std.specs.declared.cmp.Ordering.TheVariants.{Less, Equal, Greater}
use Rattle.std.specs.Cmp.Lexicographic.{slice_cmp, texts_ties, nat_list_cmp_total}
use Rattle.std.specs.FinMap.{find, get, entries, entries_sorted, from_sorted, is_sorted, entries-from_sorted, get-from_sorted, get-entries, get-from_entries, same_map}
use Rattle.std.specs.FinMap.Entries.{below_all}
use Rattle.std.specs.Str.{bytes_eq}
use Rattle.ncq_base.specs.Keys.{ByBytes, times}
use Rattle.ncq_base.proofs.Keyed.{bytes_apart}
use Rattle.ncq_base.proofs.Tests.{both_true}
use Rattle.ncq_bag.specs.Bags.{count_of, surplus, tally, difference, difference_of, differences, IsTally}
use Rattle.ncq_bag.specs.declared.bag.Difference.{Difference}

abbrev R : List ℕ → List ℕ → Ordering
R = slice_cmp nat_cmp

abbrev is_nonzero : ℤ → Bool
is_nonzero (pos zero) = false
is_nonzero (pos (suc n)) = true
is_nonzero (negsuc n) = true

abbrev counts_some : List ℕ × ℤ → Bool
counts_some e = is_nonzero e.1

-- a count that is not 0
abbrev significant : ℤ → Option ℤ
significant z = cond (is_nonzero z) (Some z) None

abbrev keep : Option ℤ → Option ℤ
keep None = None
keep (Some z) = significant z

keep_is : (o : Option ℤ) → keep o ≡ significant (unwrap_or o (pos 0))
keep_is None = refl
keep_is (Some z) = refl

told : (b : Bool) → T b → b ≡ true
told true h = refl
told false h = absurd h

untold : (b : Bool) → b ≡ true → T b
untold true h = tt
untold false h = cc

not_tied : (r : Ordering) → is_lt r ≡ true → is_eq r ≡ false
not_tied Less h = refl
not_tied Equal h = cc
not_tied Greater h = cc

no_tie : (q : List ℕ) (es : List (List ℕ × ℤ)) → below_all R q es ≡ true → find R q es ≡ None
no_tie q [] h = refl
no_tie q (e ∷ es) h =
    let b = both_true (is_lt (R q e.0)) (below_all R q es) h in
    (λ i. cond (not_tied (R q e.0) b.0 i) (Some e.1) (find R q es)) ∙ no_tie q es b.1

passed_over : (q : List ℕ) (e : List ℕ × ℤ) (es : List (List ℕ × ℤ)) → is_eq (R q e.0) ≡ false → find R q (filter counts_some (e ∷ es)) ≡ find R q (filter counts_some es)
passed_over q e es t =
    elim (is_nonzero e.1) as (λ b. find R q (cond b (e ∷ filter counts_some es) (filter counts_some es)) ≡ find R q (filter counts_some es)) [
      | true ↦ λ i. cond (t i) (Some e.1) (find R q (filter counts_some es))
      | false ↦ refl
    ]

kept_find : (q : List ℕ) (es : List (List ℕ × ℤ)) → is_sorted R es ≡ true → find R q (filter counts_some es) ≡ keep (find R q es)
kept_find q [] h = refl
kept_find q (e ∷ es) h =
    let b = both_true (below_all R e.0 es) (is_sorted R es) h in
    let rest = kept_find q es b.1 in
    elim (R q e.0) as (λ r. R q e.0 ≡ r → find R q (filter counts_some (e ∷ es)) ≡ keep (cond (is_eq r) (Some e.1) (find R q es))) [
      | Less ↦ λ p. passed_over q e es (ap is_eq p) ∙ rest
      | Equal ↦ λ p.
          let none : find R q es ≡ None = no_tie q es (ap (λ x. below_all R x es) (bytes_apart q e.0 p) ∙ b.0) in
          elim (is_nonzero e.1) as (λ t. find R q (cond t (e ∷ filter counts_some es) (filter counts_some es)) ≡ cond t (Some e.1) None) [
            | true ↦ λ i. cond (is_eq (p i)) (Some e.1) (find R q (filter counts_some es))
            | false ↦ rest ∙ ap keep none
          ]
      | Greater ↦ λ p. passed_over q e es (ap is_eq p) ∙ rest
    ] refl

kept_below : (x : List ℕ) (es : List (List ℕ × ℤ)) → below_all R x es ≡ true → below_all R x (filter counts_some es) ≡ true
kept_below x [] h = refl
kept_below x (e ∷ es) h =
    let b = both_true (is_lt (R x e.0)) (below_all R x es) h in
    let rest = kept_below x es b.1 in
    elim (is_nonzero e.1) as (λ t. below_all R x (cond t (e ∷ filter counts_some es) (filter counts_some es)) ≡ true) [
      | true ↦ λ i. b.0 i && rest i
      | false ↦ rest
    ]

kept_sorted : (es : List (List ℕ × ℤ)) → is_sorted R es ≡ true → is_sorted R (filter counts_some es) ≡ true
kept_sorted [] h = refl
kept_sorted (e ∷ es) h =
    let b = both_true (below_all R e.0 es) (is_sorted R es) h in
    let rest = kept_sorted es b.1 in
    elim (is_nonzero e.1) as (λ t. is_sorted R (cond t (e ∷ filter counts_some es) (filter counts_some es)) ≡ true) [
      | true ↦ λ i. kept_below e.0 es b.0 i && rest i
      | false ↦ rest
    ]

module _ (m : ByBytes ℤ) where
  sorted : is_sorted R (entries m) ≡ true
  sorted = told (is_sorted R (entries m)) (entries_sorted m)

  kept_up : T (is_sorted R (filter counts_some (entries m)))
  kept_up = untold _ (kept_sorted (entries m) sorted)

  -- the counts that are not 0
  kept_map : ByBytes ℤ
  kept_map = from_sorted (filter counts_some (entries m))

  kept_entries : entries kept_map ≡ filter counts_some (entries m)
  unfolding kept_map
  kept_entries = entries-from_sorted R (filter counts_some (entries m)) kept_up

  kept_get : (q : List ℕ) → get kept_map q ≡ significant (count_of m q)
  unfolding kept_map
  kept_get q = get-from_sorted R (filter counts_some (entries m)) q kept_up ∙ kept_find q (entries m) sorted ∙ ap keep (sym (get-entries m q)) ∙ keep_is (get m q)

kept_differences : (es : List (List ℕ × ℤ)) → flat_map difference_of es ≡ flat_map difference_of (filter counts_some es)
kept_differences [] = refl
kept_differences ((k, pos zero) ∷ es) = kept_differences es
kept_differences ((k, pos (suc n)) ∷ es) = ap (λ (ds : List Difference). difference_of (k, pos (suc n)) ++ ds) (kept_differences es)
kept_differences ((k, negsuc n) ∷ es) = ap (λ (ds : List Difference). difference_of (k, negsuc n) ++ ds) (kept_differences es)

pub differences_alike : (m n : ByBytes ℤ) → ((q : List ℕ) → count_of m q ≡ count_of n q) → differences m ≡ differences n
differences_alike m n same =
    let one : kept_map m ≡ kept_map n = same_map nat_list_cmp_total bytes_apart (kept_map m) (kept_map n) (λ q. kept_get m q ∙ ap significant (same q) ∙ sym (kept_get n q)) in
    kept_differences (entries m)
    ∙ ap (flat_map difference_of) (sym (kept_entries m) ∙ ap entries one ∙ kept_entries n)
    ∙ sym (kept_differences (entries n))

pub times_append : {A : Type 0} (test : A → Bool) (xs ys : List A) → times test (xs ++ ys) ≡ times test xs + times test ys
times_append test [] ys = omega arith
times_append test (x ∷ xs) ys = ap (λ n. cond (test x) 1 0 + n) (times_append test xs ys) ∙ sym (add_assoc (cond (test x) 1 0) (times test xs) (times test ys))

tally_find : (f : List ℕ → ℤ) (q : List ℕ) (strings : List (List ℕ)) → (times (bytes_eq q) strings ≡ 0 → f q ≡ pos 0)
    → unwrap_or (find R q (map (λ string. (string, f string)) strings)) (pos 0) ≡ f q
tally_find f q [] none = sym (none refl)
tally_find f q (s ∷ strings) none =
    elim (R q s) as (λ r. R q s ≡ r → unwrap_or (cond (is_eq r) (Some (f s)) (find R q (map (λ string. (string, f string)) strings))) (pos 0) ≡ f q) [
      | Less ↦ λ p. tally_find f q strings (λ z. none (rw (texts_ties q s ∙ ap is_eq p) (zero-add _ ∙ z)))
      | Equal ↦ λ p. ap f (sym (bytes_apart q s p))
      | Greater ↦ λ p. tally_find f q strings (λ z. none (rw (texts_ties q s ∙ ap is_eq p) (zero-add _ ∙ z)))
    ] refl

none_of : (q : List ℕ) (now before : List (List ℕ)) → times (bytes_eq q) (now ++ before) ≡ 0 → surplus now before q ≡ pos 0
none_of q now before z =
    let sum = times_append (bytes_eq q) now before in
    let a : times (bytes_eq q) now ≡ 0 = omega arith in
    let b : times (bytes_eq q) before ≡ 0 = omega arith in
    λ i. pos (a i) -ℤ pos (b i)

pub tally_is : (now before : List (List ℕ)) → IsTally (tally now before) now before
tally_is now before q =
    let pairs = map (λ string. (string, surplus now before string)) (now ++ before) in
    ap (λ (o : Option ℤ). unwrap_or o (pos 0)) (get-from_entries nat_list_cmp_total pairs q)
    ∙ tally_find (surplus now before) q (now ++ before) (none_of q now before)

-- a tally of two lists leaves their difference
pub tally_decides : (counts : ByBytes ℤ) (now before : List (List ℕ)) → IsTally counts now before → differences counts ≡ difference now before
unfolding difference
tally_decides counts now before is = differences_alike counts (tally now before) (λ q. is q ∙ sym (tally_is now before q))
