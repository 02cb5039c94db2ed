-- Watches: a set of them with one more and with one less, those of a file, and those of some files.
use Rattle.std.proofs.Common.{◌≡◌, ℕ, ◌++◌, ◌≤◌, ap, ◌+◌, ◌-◌, ◌^◌, ◌<◌, ◌==◌, ◌&&◌, ◌||◌, not, Bool, true, false, List, [], ◌∷◌, map, refl, sym, ◌∙◌, arith, cond, take, length, get_or}
use Rattle.std.specs.Prelude.{nat_eq}
use Rattle.std.specs.List.{filter, list_any}
use Rattle.std.specs.declared.cmp.Ordering.{Ordering}
use Rattle.std.specs.declared.cmp.Ordering.TheVariants.{Less, Equal, Greater}
use Rattle.std.specs.declared.ops.Bound.TheVariants.{Included}
use Rattle.std.specs.List.Sorted.{IsStrictlySortedBy}
use Rattle.std.specs.Cmp.{nat_cmp_total}
use Rattle.std.proofs.lemmas.Map.Keys.{sorted_from_all_adjacent}
use Rattle.std.specs.Ordering.{nat_cmp, ordering_then, eq_by_cmp, match_ordering}
use Rattle.std.specs.Set.{remove_key}
use Rattle.std.specs.BTreeMap.{is_at}
use Rattle.std.specs.BTreeMap.Range.{range_contains}
use Rattle.std.specs.BTreeSet.{insert_key}
use Rattle.std.proofs.lemmas.Bool.Decides.{nat_tests}
use Rattle.std.proofs.lemmas.List.Folds.{list_any-append, list_any_more}
use Rattle.ncq_book.specs.declared.watchers.Watch.{Watch}
use Rattle.ncq_book.specs.Watches.{is_watch, is_watched, InstallsFit}
use Rattle.ncq_book.proofs.Lists.{any_agree, any_mapped}

-- the order of watches that the derived comparison has
abbrev pub watch_cmp : Watch → Watch → Ordering
watch_cmp a b = ordering_then (nat_cmp a.file b.file) (nat_cmp a.install b.install)

found_is : (v w : Watch) → is_at (watch_cmp v) w ≡ is_watch v w
found_is v w = grind (arith, nat_tests)

found_back : (v w : Watch) → is_at (watch_cmp v) w ≡ is_watch w v
found_back v w = grind (arith, nat_tests)

-- a set has the watch
has_is : (w : Watch) (ws : List Watch) → list_any (is_at (watch_cmp w)) ws ≡ list_any (is_watch w) ws
has_is w ws = any_agree (is_at (watch_cmp w)) (is_watch w) (found_is w) ws

-- what a set is asked, after a change at one watch
abbrev pub Changes : Watch → Bool → List Watch → List Watch → Type 0
Changes v b old new = (q : Watch) → list_any (is_at (watch_cmp q)) new ≡ cond (is_at (watch_cmp v) q) b (list_any (is_at (watch_cmp q)) old)

or_last : (t x : Bool) → cond t true x ≡ (x || t)
or_last true x = elim x as (λ x. true ≡ (x || true)) [ true ↦ refl | false ↦ refl ]
or_last false x = elim x as (λ x. x ≡ (x || false)) [ true ↦ refl | false ↦ refl ]

and_last : (t x : Bool) → cond t false x ≡ (x && not t)
and_last true x = elim x as (λ x. false ≡ (x && false)) [ true ↦ refl | false ↦ refl ]
and_last false x = elim x as (λ x. x ≡ (x && true)) [ true ↦ refl | false ↦ refl ]

-- one watch more
pub one_more : (v : Watch) (old new : List Watch) → Changes v true old new → (w : Watch) → list_any (is_watch w) new ≡ (list_any (is_watch w) old || is_watch w v)
one_more v old new changes w =
    sym (has_is w new) ∙ changes w ∙ (λ i. cond (found_back v w i) true (has_is w old i)) ∙ or_last (is_watch w v) (list_any (is_watch w) old)

-- one watch less
pub one_less : (v : Watch) (old new : List Watch) → Changes v false old new → (w : Watch) → list_any (is_watch w) new ≡ (list_any (is_watch w) old && not (is_watch w v))
one_less v old new changes w =
    sym (has_is w new) ∙ changes w ∙ (λ i. cond (found_back v w i) false (has_is w old i)) ∙ and_last (is_watch w v) (list_any (is_watch w) old)

pub fits_more : (v : Watch) (ws : List Watch) → v.install < 2 ^ 64 → InstallsFit ws → InstallsFit (insert_key watch_cmp ws v)
fits_more v [] fits all = (fits, tt)
fits_more v (w ∷ ws) fits all =
    elim (watch_cmp v w) as (λ o. InstallsFit (match_ordering o (v ∷ w ∷ ws) (w ∷ ws) (w ∷ insert_key watch_cmp ws v))) [
      | Less ↦ (fits, all)
      | Equal ↦ all
      | Greater ↦ (all.0, fits_more v ws fits all.1)
    ]

pub fits_less : (test : Watch → Bool) (ws : List Watch) → InstallsFit ws → InstallsFit (remove_key test ws)
fits_less test [] all = tt
fits_less test (w ∷ ws) all = elim (test w) as (λ t. InstallsFit (cond t ws (w ∷ remove_key test ws))) [ true ↦ all.1 | false ↦ (all.0, fits_less test ws all.1) ]

-- whether a watch is one that the file may have
abbrev pub is_within : ℕ → Watch → Bool
is_within file = range_contains watch_cmp (Included (record { file = file; install = 0 })) (Included (record { file = file; install = 2 ^ 64 - 1 }))

within_is : (file : ℕ) (w : Watch) → w.install < 2 ^ 64 → is_within file w ≡ (w.file == file)
within_is file w fits = grind (arith, nat_tests)

-- between the first and the last watch that a file may have are those of the file
pub file_range : (file : ℕ) (ws : List Watch) → InstallsFit ws → filter (is_within file) ws ≡ filter (λ w. w.file == file) ws
file_range file [] all = refl
file_range file (w ∷ ws) all = λ i. cond (within_is file w all.0 i) (w ∷ file_range file ws all.1 i) (file_range file ws all.1 i)

-- whether an install number is among those of a file
watch_at : (file n : ℕ) (ws : List Watch) → list_any (nat_eq n) (map (λ w. w.install) (filter (λ w. w.file == file) ws)) ≡ list_any (is_watch (record { file = file; install = n })) ws
watch_at file n ws =
    any_mapped (nat_eq n) (λ (w : Watch). w.install) (λ w. w.file == file) ws
    ∙ any_agree (λ w. w.file == file && nat_eq n w.install) (is_watch (record { file = file; install = n })) (λ w. grind (arith, nat_tests)) ws

number_is : (n k : ℕ) → eq_by_cmp nat_cmp n k ≡ nat_eq n k
number_is n k = grind (arith, nat_tests)

-- the install numbers of one file more
pub file_more : (ws : List Watch) (files installs after : List ℕ) (i file : ℕ) → i < length files → file ≡ get_or files i 0
    → ((n : ℕ) → list_any (nat_eq n) installs ≡ is_watched ws (take i files) n)
    → after ≡ installs ++ map (λ (w : Watch). w.install) (filter (λ w. w.file == file) ws)
    → (n : ℕ) → list_any (nat_eq n) after ≡ is_watched ws (take (i + 1) files) n
file_more ws files installs after i file within here so_far more n =
    let those : List ℕ = map (λ (w : Watch). w.install) (filter (λ w. w.file == file) ws) in
    ap (list_any (nat_eq n)) more ∙ list_any-append (nat_eq n) installs those
    ∙ (λ j. so_far n j || watch_at file n ws j)
    ∙ (λ j. is_watched ws (take i files) n || list_any (is_watch (record { file = here j; install = n })) ws)
    ∙ sym (list_any_more (λ f. list_any (is_watch (record { file = f; install = n })) ws) files i 0 within)

-- what a set of numbers has that was made of a list
pub set_of : (numbers keys : List ℕ)
    → ((n : ℕ) → list_any (eq_by_cmp nat_cmp n) keys ≡ list_any (eq_by_cmp nat_cmp n) numbers)
    → (n : ℕ) → list_any (nat_eq n) keys ≡ list_any (nat_eq n) numbers
set_of numbers keys same n =
    let told : (ks : List ℕ) → list_any (eq_by_cmp nat_cmp n) ks ≡ list_any (nat_eq n) ks = any_agree (eq_by_cmp nat_cmp n) (nat_eq n) (number_is n) in
    sym (told keys) ∙ same n ∙ told numbers

-- numbers of which each is below the next
pub below_next : (numbers : List ℕ) (at : ℕ) → length numbers ≤ at
    → ((k : ℕ) → k + 1 < at → get_or numbers k 0 < get_or numbers (k + 1) 0) → IsStrictlySortedBy nat_cmp numbers
below_next numbers at all below =
    sorted_from_all_adjacent nat_cmp_total numbers 0 (λ k h. less_is (get_or numbers k 0) (get_or numbers (k + 1) 0) (below k (omega arith)))
  where
    less_is : (a b : ℕ) → a < b → nat_cmp a b ≡ Less
    less_is a b h = grind (arith, nat_tests)
