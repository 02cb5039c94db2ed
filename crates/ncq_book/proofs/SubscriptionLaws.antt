-- Subscriptions whose install numbers rise and whose names differ: one more, one less, one changed.
use Rattle.std.proofs.Common.{◌≡◌, ◌≢◌, ℕ, ◌<◌, ◌==◌, ◌&&◌, ◌||◌, not, Bool, true, false, List, [], ◌∷◌, ◌++◌, map, refl, sym, ◌∙◌, ap, arith, cond, subst, inl, inr}
use Rattle.std.specs.Prelude.{Some, None, nat_eq}
use Rattle.std.specs.List.{filter, find, list_any, AllByRecursion}
use Rattle.std.specs.Option.{option_map}
use Rattle.std.specs.Map.{lookup, remove_entry}
use Rattle.std.specs.BTreeMap.{is_at, insert_entry}
use Rattle.std.specs.Ordering.{nat_cmp, match_ordering}
use Rattle.std.specs.Str.{bytes_eq}
use Rattle.std.proofs.lemmas.Bool.{cases_Bool, true≢false, eqb-true, eq-eqb, ne_eqb, and_parts}
use Rattle.std.proofs.lemmas.List.Folds.{list_any-append}
use mathlib.Core.Bool.{or-false, and-true, and-false}
use Rattle.std.proofs.lemmas.Bool.Decides.{nat_tests}
use Rattle.std.proofs.lemmas.Slice.Eq.{bytes_eq-Decides}
use Rattle.ncq_book.specs.declared.subscription.Subscription.{Subscription}
use Rattle.ncq_book.specs.declared.watchers.Watch.{Watch}
use Rattle.ncq_book.specs.Books.{is_named, is_of, subscription_of, InstallsRise, NamesDiffer}
use Rattle.ncq_book.specs.Kept.{Placed, subscriptions_in, placed_of, install_of, watch_of}
use Rattle.ncq_book.specs.Watches.{is_watch}
use Rattle.ncq_book.proofs.Lists.{number_at, found_has, each_leads, each_filtered, each_pushed, none_is_found, none_passes, all_pass, or_left, or_right, cond_map, map_itself, NumbersRise, any_mapped, any_agree, any_swap}

-- subscriptions under their numbers, and back
pub subscriptions_back : (ms : List Subscription) → subscriptions_in (map placed_of ms) ≡ ms
subscriptions_back [] = refl
subscriptions_back (m ∷ ms) = ap (λ r. m ∷ r) (subscriptions_back ms)

-- no subscription has this number
abbrev pub NoneOf : ℕ → List Subscription → Type 0
NoneOf i ms = AllByRecursion (λ m. is_of i m ≡ false) ms

pub none_above : (i : ℕ) (m : Subscription) (ms : List Subscription) → is_of i m ≡ true → AllByRecursion (λ n. m.install < n.install) ms → NoneOf i ms
none_above i m ms h above = each_leads (λ n. m.install < n.install) (λ n. is_of i n ≡ false) (λ n l. grind (arith, nat_tests)) ms above

-- the others are all, where no subscription has the number
pub others_all : (i : ℕ) (ms : List Subscription) → NoneOf i ms → filter (λ m. not (is_of i m)) ms ≡ ms
others_all i ms none = all_pass (λ m. not (is_of i m)) ms (each_leads (λ m. is_of i m ≡ false) (λ m. not (is_of i m) ≡ true) (λ m e. ap not e) ms none)

-- a list of pairs that a choice makes of subscriptions, each under the install number
module _ {X : Type 0} (value : Subscription → X) where
  abbrev pub pair_of : Subscription → ℕ × X
  pair_of m = (m.install, value m)

  abbrev at : ℕ → ℕ → Bool
  at i = is_at (nat_cmp i)

  pub lookup_pair : (i : ℕ) (ms : List Subscription) → lookup (is_at (nat_cmp i)) (map pair_of ms) ≡ option_map value (find (is_of i) ms)
  lookup_pair i [] = refl
  lookup_pair i (m ∷ ms) =
      (λ j. cond (number_at i m.install j) (Some (value m)) (lookup_pair i ms j))
      ∙ elim (is_of i m) as (λ t. cond t (Some (value m)) (option_map value (find (is_of i) ms)) ≡ option_map value (cond t (Some m) (find (is_of i) ms))) [ true ↦ refl | false ↦ refl ]

  pub remove_pair : (i : ℕ) (ms : List Subscription) → InstallsRise ms → remove_entry (is_at (nat_cmp i)) (map pair_of ms) ≡ map pair_of (filter (λ m. not (is_of i m)) ms)
  remove_pair i [] rise = refl
  remove_pair i (m ∷ ms) rise =
      (λ j. cond (number_at i m.install j) (map pair_of ms) (pair_of m ∷ remove_pair i ms rise.1 j))
      ∙ elim (is_of i m) as (λ t. is_of i m ≡ t → cond t (map pair_of ms) (pair_of m ∷ map pair_of (filter (λ m. not (is_of i m)) ms)) ≡ map pair_of (cond (not t) (m ∷ filter (λ m. not (is_of i m)) ms) (filter (λ m. not (is_of i m)) ms))) [
        | true ↦ λ h. sym (ap (map pair_of) (others_all i ms (none_above i m ms h rise.0)))
        | false ↦ λ h. refl
      ] refl

  pub insert_pair : (ms : List Subscription) (m : Subscription) → AllByRecursion (λ n. n.install < m.install) ms → insert_entry nat_cmp (map pair_of ms) m.install (value m) ≡ map pair_of (ms ++ m ∷ [])
  insert_pair [] m above = refl
  insert_pair (n ∷ ms) m above =
      let up = above.0 in
      let ranked : match_ordering (nat_cmp m.install n.install) ((m.install, value m) ∷ map pair_of (n ∷ ms)) ((n.install, value m) ∷ map pair_of ms) (pair_of n ∷ insert_entry nat_cmp (map pair_of ms) m.install (value m)) ≡ pair_of n ∷ insert_entry nat_cmp (map pair_of ms) m.install (value m) = grind (arith, nat_tests) in
      ranked ∙ ap (λ r. pair_of n ∷ r) (insert_pair ms m above.1)

  pub pairs_pushed : (ms : List Subscription) (m : Subscription) → map pair_of (ms ++ m ∷ []) ≡ map pair_of ms ++ pair_of m ∷ []
  pairs_pushed [] m = refl
  pairs_pushed (n ∷ ms) m = ap (λ r. pair_of n ∷ r) (pairs_pushed ms m)

  pub keys_below : (i : ℕ) (ms : List Subscription) → AllByRecursion (λ n. n.install < i) ms → AllByRecursion (λ (e : ℕ × X). e.0 < i) (map pair_of ms)
  keys_below i [] above = tt
  keys_below i (m ∷ ms) above = (above.0, keys_below i ms above.1)

pub get_is : (placed : List Placed) (ms : List Subscription) (i : ℕ) → placed ≡ map placed_of ms → lookup (is_at (nat_cmp i)) placed ≡ subscription_of i ms
get_is placed ms i numbered = ap (lookup (is_at (nat_cmp i))) numbered ∙ lookup_pair (λ m. m) i ms ∙ map_itself (find (is_of i) ms)

-- one more
pub rise_more : (ms : List Subscription) (m : Subscription) → InstallsRise ms → AllByRecursion (λ n. n.install < m.install) ms → InstallsRise (ms ++ m ∷ [])
rise_more [] m rise above = (tt, tt)
rise_more (n ∷ ms) m rise above = (each_pushed (λ k. n.install < k.install) ms m rise.0 above.0, rise_more ms m rise.1 above.1)

names_same : (a b : List ℕ) → bytes_eq a b ≡ true → a ≡ b
names_same a b h = (bytes_eq-Decides a b).0 h

name_itself : (a : List ℕ) → bytes_eq a a ≡ true
name_itself a = (bytes_eq-Decides a a).1 refl

names_apart : (a b : List ℕ) → (a ≡ b → ⊥) → bytes_eq a b ≡ false
names_apart a b h = elim (cases_Bool (bytes_eq a b)) [ inl e ↦ absurd (h (names_same a b e)) | inr e ↦ e ]

pub names_swap : (a b : List ℕ) → bytes_eq a b ≡ bytes_eq b a
names_swap a b =
    elim (cases_Bool (bytes_eq a b)) [
      | inl h ↦ h ∙ sym (subst (λ c. bytes_eq c a ≡ true) (names_same a b h) (name_itself a))
      | inr h ↦ h ∙ sym (names_apart b a (λ e. true≢false (sym (subst (λ c. bytes_eq c b ≡ true) e (name_itself b)) ∙ h)))
    ]

-- a name that nobody has
nobody_named : (name : List ℕ) (ms : List Subscription) → list_any (is_named name) ms ≡ false → AllByRecursion (λ m. is_named name m ≡ false) ms
nobody_named name [] h = tt
nobody_named name (m ∷ ms) h =
    let e : is_named name m ≡ false = or_left (is_named name m) (list_any (is_named name) ms) h in
    (e, nobody_named name ms (or_right (is_named name m) (list_any (is_named name) ms) h))

pub differ_more : (ms : List Subscription) (m : Subscription) → NamesDiffer ms → list_any (is_named m.name) ms ≡ false → NamesDiffer (ms ++ m ∷ [])
differ_more [] m differ free = (tt, tt)
differ_more (n ∷ ms) m differ free =
    let e = or_left (is_named m.name n) (list_any (is_named m.name) ms) free in
    let f = or_right (is_named m.name n) (list_any (is_named m.name) ms) free in
    (each_pushed (λ k. is_named n.name k ≡ false) ms m differ.0 (names_swap n.name m.name ∙ e), differ_more ms m differ.1 f)

-- the one more is found by its name
pub named_more : (ms : List Subscription) (m : Subscription) (name : List ℕ) → list_any (is_named m.name) ms ≡ false
    → cond (bytes_eq m.name name) (Some m.install) (install_of name ms) ≡ install_of name (ms ++ m ∷ [])
named_more [] m name free = (λ i. cond (names_swap m.name name i) (Some m.install) None) ∙ cond_map (λ (n : Subscription). n.install) (is_named name m) m
named_more (n ∷ ms) m name free =
    let e = or_left (is_named m.name n) (list_any (is_named m.name) ms) free in
    let f = or_right (is_named m.name n) (list_any (is_named m.name) ms) free in
    elim (is_named name n) as (λ t. is_named name n ≡ t → cond (bytes_eq m.name name) (Some m.install) (option_map (λ k. k.install) (cond t (Some n) (find (is_named name) ms))) ≡ option_map (λ k. k.install) (cond t (Some n) (find (is_named name) (ms ++ m ∷ [])))) [
      | true ↦ λ h.
          let same : name ≡ n.name = names_same name n.name h in
          let other : bytes_eq m.name name ≡ false = ap (bytes_eq m.name) same ∙ e in
          λ i. cond (other i) (Some m.install) (Some n.install)
      | false ↦ λ h. named_more ms m name f
    ] refl

step_of : (e a x i : Bool) → ((e && (a || x)) && i) ≡ ((e && (a && i)) || ((e && x) && i))
step_of false a x i = refl
step_of true true x true = refl
step_of true true x false = elim x as (λ x. false ≡ (x && false)) [ true ↦ refl | false ↦ refl ]
step_of true false x i = refl

-- whether a subscription of a kind has one of the files, asked at each of them
one_by_one : (e i : Bool) (file : ℕ) (files : List ℕ) → ((e && list_any (nat_eq file) files) && i) ≡ list_any (λ f. e && (f == file && i)) files
one_by_one e i file [] = elim e as (λ e. ((e && false) && i) ≡ false) [ true ↦ refl | false ↦ refl ]
one_by_one e i file (f ∷ files) =
    let turned : nat_eq file f ≡ (f == file) = grind (arith, nat_tests) in
    step_of e (nat_eq file f) (list_any (nat_eq file) files) i
    ∙ (λ j. (e && (turned j && i)) || one_by_one e i file files j)

-- subscriptions of a kind, found by their files
module _ (kind : Subscription → Bool) where
  -- whether the subscription is of the kind, and this is its watch
  abbrev pub noted_at : Watch → Subscription → Bool
  noted_at w m = kind m && is_watch w (watch_of m)

  -- whether the subscription is of the kind, and the file of its plan is one of these
  abbrev pub has_file : List ℕ → Subscription → Bool
  has_file files m = kind m && list_any (nat_eq m.file.0) files

  -- the install numbers of those of the kind that have one of these files
  abbrev pub installs_of : List ℕ → List Subscription → List ℕ
  installs_of files ms = map (λ m. m.install) (filter (has_file files) ms)

  -- one more
  pub noted_more : (ms : List Subscription) (m : Subscription) (w : Watch) → list_any (noted_at w) (ms ++ m ∷ []) ≡ (list_any (noted_at w) ms || noted_at w m)
  noted_more ms m w = list_any-append (noted_at w) ms (m ∷ []) ∙ ap (λ b. list_any (noted_at w) ms || b) (or-false (noted_at w m))

  -- a watch of another install number is not the subscription's
  other_install : (w : Watch) (m : Subscription) → w.install ≢ m.install → noted_at w m ≡ false
  other_install w m other =
      (λ i. kind m && (w.file == m.file.0 && ne_eqb w.install m.install other i))
      ∙ (λ i. kind m && and-false (w.file == m.file.0) i)
      ∙ and-false (kind m)

  -- behind the subscription whose watch it is, nobody has its install number
  none_noted : (w : Watch) (n : Subscription) (ms : List Subscription) → noted_at w n ≡ true → AllByRecursion (λ k. n.install < k.install) ms → AllByRecursion (λ k. noted_at w k ≡ false) ms
  none_noted w n ms h above =
      let is = (and_parts (kind n) (is_watch w (watch_of n)) h).1 in
      let here : w.install ≡ n.install = eqb-true w.install n.install (and_parts (w.file == n.file.0) (w.install == n.install) is).1 in
      each_leads (λ k. n.install < k.install) (λ k. noted_at w k ≡ false) (λ k up. other_install w k (λ e. omega (arith, e, here, up))) ms above

  -- one less
  pub noted_less : (i : ℕ) (ms : List Subscription) (m : Subscription) (w : Watch) → InstallsRise ms → find (is_of i) ms ≡ Some m
      → (list_any (noted_at w) ms && not (noted_at w m)) ≡ list_any (noted_at w) (filter (λ m. not (is_of i m)) ms)
  noted_less i [] m w rise found = cc
  noted_less i (n ∷ ms) m w rise found =
      let rest : List Subscription = filter (λ m. not (is_of i m)) ms in
      elim (is_of i n) as (λ t. is_of i n ≡ t → cond t (Some n) (find (is_of i) ms) ≡ Some m → (list_any (noted_at w) (n ∷ ms) && not (noted_at w m)) ≡ list_any (noted_at w) (cond (not t) (n ∷ rest) rest)) [
        | true ↦ λ h q.
            let same : n ≡ m = grind arith in
            let all : rest ≡ ms = others_all i ms (none_above i n ms h rise.0) in
            (λ j. list_any (noted_at w) (n ∷ ms) && not (noted_at w (sym same j)))
            ∙ elim (noted_at w n) as (λ t. noted_at w n ≡ t → ((t || list_any (noted_at w) ms) && not t) ≡ list_any (noted_at w) ms) [
              | true ↦ λ g. sym (none_passes (noted_at w) ms (none_noted w n ms g rise.0))
              | false ↦ λ g. and-true (list_any (noted_at w) ms)
            ] refl
            ∙ ap (list_any (noted_at w)) (sym all)
        | false ↦ λ h q.
            let less = noted_less i ms m w rise.1 q in
            elim (noted_at w n) as (λ t. noted_at w n ≡ t → ((t || list_any (noted_at w) ms) && not (noted_at w m)) ≡ (t || list_any (noted_at w) rest)) [
              | true ↦ λ g. ap not (found_has (is_of i) (λ k. noted_at w k ≡ false) ms m (none_noted w n ms g rise.0) q)
              | false ↦ λ g. less
            ] refl
      ] refl found

  -- whether an install number is among those of some files
  pub install_at : (files : List ℕ) (n : ℕ) (ms : List Subscription) → list_any (nat_eq n) (installs_of files ms) ≡ list_any (λ file. list_any (noted_at (record { file = file; install = n })) ms) files
  install_at files n ms =
      any_mapped (nat_eq n) (λ (m : Subscription). m.install) (has_file files) ms
      ∙ any_agree (λ m. has_file files m && nat_eq n m.install) (λ m. list_any (λ f. noted_at (record { file = f; install = n }) m) files)
      (λ m. one_by_one (kind m) (nat_eq n m.install) m.file.0 files) ms
      ∙ any_swap (λ f m. noted_at (record { file = f; install = n }) m) files ms

-- one less
pub rise_less : (test : Subscription → Bool) (ms : List Subscription) → InstallsRise ms → InstallsRise (filter test ms)
rise_less test [] rise = tt
rise_less test (m ∷ ms) rise =
    elim (test m) as (λ t. InstallsRise (cond t (m ∷ filter test ms) (filter test ms))) [
      | true ↦ (each_filtered (λ n. m.install < n.install) test ms rise.0, rise_less test ms rise.1)
      | false ↦ rise_less test ms rise.1
    ]

pub differ_less : (test : Subscription → Bool) (ms : List Subscription) → NamesDiffer ms → NamesDiffer (filter test ms)
differ_less test [] differ = tt
differ_less test (m ∷ ms) differ =
    elim (test m) as (λ t. NamesDiffer (cond t (m ∷ filter test ms) (filter test ms))) [
      | true ↦ (each_filtered (λ n. is_named m.name n ≡ false) test ms differ.0, differ_less test ms differ.1)
      | false ↦ differ_less test ms differ.1
    ]

module _ (i : ℕ) where
  -- the subscriptions but that of the number
  abbrev rest : List Subscription → List Subscription
  rest ms = filter (λ m. not (is_of i m)) ms

  pub named_less : (ms : List Subscription) (m : Subscription) (name : List ℕ) → InstallsRise ms → NamesDiffer ms → find (is_of i) ms ≡ Some m
      → cond (bytes_eq m.name name) None (install_of name ms) ≡ install_of name (filter (λ m. not (is_of i m)) ms)
  named_less [] m name rise differ found = cc
  named_less (n ∷ ms) m name rise differ found =
      elim (is_of i n) as (λ t. is_of i n ≡ t → cond t (Some n) (find (is_of i) ms) ≡ Some m → cond (bytes_eq m.name name) None (install_of name (n ∷ ms)) ≡ install_of name (cond (not t) (n ∷ rest ms) (rest ms))) [
        | true ↦ λ h q.
            let same : n ≡ m = grind arith in
            let all : rest ms ≡ ms = others_all i ms (none_above i n ms h rise.0) in
            (λ j. cond (bytes_eq (sym same j).name name) None (install_of name (n ∷ ms)))
            ∙ elim (is_named name n) as (λ t. is_named name n ≡ t → cond (bytes_eq n.name name) None (option_map (λ k. k.install) (cond t (Some n) (find (is_named name) ms))) ≡ install_of name ms) [
              | true ↦ λ g.
                  let e : name ≡ n.name = names_same name n.name g in
                  let here : bytes_eq n.name name ≡ true = names_swap n.name name ∙ g in
                  let gone : find (is_named name) ms ≡ None = subst (λ a. find (is_named a) ms ≡ None) (sym e) (none_is_found (is_named n.name) ms differ.0) in
                  (λ j. cond (here j) None (Some n.install)) ∙ sym (ap (option_map (λ (k : Subscription). k.install)) gone)
              | false ↦ λ g. λ j. cond ((names_swap n.name name ∙ g) j) None (install_of name ms)
            ] refl
            ∙ ap (install_of name) (sym all)
        | false ↦ λ h q.
            let less = named_less ms m name rise.1 differ.1 q in
            elim (is_named name n) as (λ t. is_named name n ≡ t → cond (bytes_eq m.name name) None (option_map (λ k. k.install) (cond t (Some n) (find (is_named name) ms))) ≡ option_map (λ k. k.install) (cond t (Some n) (find (is_named name) (rest ms)))) [
              | true ↦ λ g.
                  let e : name ≡ n.name = names_same name n.name g in
                  let apart : is_named n.name m ≡ false = found_has (is_of i) (λ k. is_named n.name k ≡ false) ms m differ.0 q in
                  let other : bytes_eq m.name name ≡ false = names_swap m.name name ∙ ap (λ a. bytes_eq a m.name) e ∙ apart in
                  λ j. cond (other j) None (Some n.install)
              | false ↦ λ g. less
            ] refl
      ] refl found

-- nobody of a name is found
pub nobody_found : (name : List ℕ) (ms : List Subscription) → list_any (is_named name) ms ≡ false → install_of name ms ≡ None
nobody_found name ms free = ap (option_map (λ (m : Subscription). m.install)) (none_is_found (is_named name) ms (nobody_named name ms free))

numbers_above : (i : ℕ) (ms : List Subscription) → AllByRecursion (λ n. i < n.install) ms → AllByRecursion (λ n. i < n) (map (λ m. m.install) ms)
numbers_above i [] above = tt
numbers_above i (m ∷ ms) above = (above.0, numbers_above i ms above.1)

installs_rise : (ms : List Subscription) → InstallsRise ms → NumbersRise (map (λ m. m.install) ms)
installs_rise [] rise = tt
installs_rise (m ∷ ms) rise = (numbers_above m.install ms rise.0, installs_rise ms rise.1)

-- the install numbers of a part rise
pub subscriptions_rise : (test : Subscription → Bool) (ms : List Subscription) → InstallsRise ms → NumbersRise (map (λ m. m.install) (filter test ms))
subscriptions_rise test ms rise = installs_rise (filter test ms) (rise_less test ms rise)

-- a subscription above all others is found behind them, and without it they are left
pub found_pushed : (ms : List Subscription) (m : Subscription) → AllByRecursion (λ n. n.install < m.install) ms → find (is_of m.install) (ms ++ m ∷ []) ≡ Some m
found_pushed [] m above = λ i. cond (eq-eqb m.install m.install refl i) (Some m) None
found_pushed (n ∷ ms) m above =
    let up = above.0 in
    let other : is_of m.install n ≡ false = grind (arith, nat_tests) in
    (λ i. cond (other i) (Some n) (find (is_of m.install) (ms ++ m ∷ []))) ∙ found_pushed ms m above.1

pub others_pushed : (ms : List Subscription) (m : Subscription) → AllByRecursion (λ n. n.install < m.install) ms → filter (λ n. not (is_of m.install n)) (ms ++ m ∷ []) ≡ ms
others_pushed [] m above = λ i. cond (not (eq-eqb m.install m.install refl i)) (m ∷ []) []
others_pushed (n ∷ ms) m above =
    let up = above.0 in
    let other : is_of m.install n ≡ false = grind (arith, nat_tests) in
    (λ i. cond (not (other i)) (n ∷ filter (λ n. not (is_of m.install n)) (ms ++ m ∷ [])) (filter (λ n. not (is_of m.install n)) (ms ++ m ∷ []))) ∙ ap (λ r. n ∷ r) (others_pushed ms m above.1)
