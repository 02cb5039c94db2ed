-- The least mark of the subscriptions that have a file: it is at most each of the marks, and the least over the watchers and the timers is the least over all.
use Rattle.std.proofs.Common.{◌≡◌, ℕ, ◌≤◌, Bool, true, false, not, ◌||◌, ◌&&◌, cond, List, [], ◌∷◌, map, refl, ◌∙◌, ap, arith}
use Rattle.std.specs.Prelude.{Option, Some, None, IfSome, ◌==◌, nat_eq, if◌then◌else◌, ◌++◌}
use Rattle.std.proofs.lemmas.Bool.Decides.{nat_tests}
use Rattle.std.specs.List.{filter, AllByRecursion}
use Rattle.ncq_book.specs.declared.subscription.Subscription.{Subscription as Kept}
use Rattle.ncq_book.specs.Books.{InstallsRise, is_timer_of, subscription_of, timers_of, watchers_of, watches}
use Rattle.ncq_source.specs.StoreStates.{StoreState}
use Rattle.ncq_engine.specs.Compactions.{least_among, least_at, least_mark, least_with}
use Rattle.ncq_engine.specs.Engines.{mark_in}
use Rattle.ncq_engine.proofs.ByInstall.{AreFound, found_each, numbers}
use Rattle.ncq_engine.proofs.Lists.{each_more}

swap : (a b : Option ℕ) (least : ℕ) → least_with a (least_with b least) ≡ least_with b (least_with a least)
swap None b least = refl
swap (Some x) None least = refl
swap (Some x) (Some y) least = omega arith

with_few : (o : Option ℕ) (least : ℕ) → least_with o least ≤ least
with_few None least = omega arith
with_few (Some mark) least = omega arith

module _ (store : StoreState) where
  -- with one subscription more behind
  pub among_push : (all : List Kept) (installs : List ℕ) (install least : ℕ) → least_among store all (installs ++ install ∷ []) least ≡ least_at store (subscription_of install all) (least_among store all installs least)
  among_push all [] install least = refl
  among_push all (first ∷ installs) install least = among_push all installs install (least_at store (subscription_of first all) least)

  -- the least of a number and the marks of those that pass a test
  abbrev least_by : (Kept → Bool) → List Kept → ℕ → ℕ
  least_by test [] least = least
  least_by test (m ∷ more) least = least_by test more (if test m then least_with (mark_in store m) least else least)

  pull : (test : Kept → Bool) (ms : List Kept) (o : Option ℕ) (least : ℕ) → least_by test ms (least_with o least) ≡ least_with o (least_by test ms least)
  pull test [] o least = refl
  pull test (m ∷ ms) o least =
      elim (test m) as (λ t. least_by test ms (if t then least_with (mark_in store m) (least_with o least) else least_with o least) ≡ least_with o (least_by test ms (if t then least_with (mark_in store m) least else least))) [
        | true ↦ ap (least_by test ms) (swap (mark_in store m) o least) ∙ pull test ms o (least_with (mark_in store m) least)
        | false ↦ pull test ms o least
      ]

  among_by : (test : Kept → Bool) (all ms : List Kept) → AreFound all ms → (least : ℕ) → least_among store all (numbers test ms) least ≡ least_by test ms least
  among_by test all [] found least = refl
  among_by test all (m ∷ ms) found least =
      elim (test m) as (λ t. least_among store all (map (λ m. m.install) (cond t (m ∷ filter test ms) (filter test ms))) least ≡ least_by test ms (if t then least_with (mark_in store m) least else least)) [
        | true ↦ ap (λ o. least_among store all (numbers test ms) (least_at store o least)) found.0 ∙ among_by test all ms found.1 (least_with (mark_in store m) least)
        | false ↦ among_by test all ms found.1 least
      ]

  same_either : (a b : ℕ) → nat_eq a b ≡ (a == b)
  same_either a b = grind (arith, nat_tests)

  -- each that has the file is a watcher or a timer of it
  parts : (file : ℕ) (ms : List Kept) → least_by (is_timer_of (file ∷ [])) ms (least_by (watches (file ∷ [])) ms store.changes) ≡ least_mark store ms file
  parts file [] = refl
  parts file (m ∷ ms) =
      by (m.timing.every == 0) (nat_eq m.file.0 file) (parts file ms)
      ∙ (λ i. if same_either m.file.0 file i then least_with (mark_in store m) (least_mark store ms file) else least_mark store ms file)
    where
      timers : ℕ → ℕ
      timers = least_by (is_timer_of (file ∷ [])) ms

      watchers : ℕ → ℕ
      watchers = least_by (watches (file ∷ [])) ms

      mark : Option ℕ
      mark = mark_in store m

      by : (based uses : Bool) → timers (watchers store.changes) ≡ least_mark store ms file
          → timers (if not based && (uses || false) then least_with mark (watchers (if based && (uses || false) then least_with mark store.changes else store.changes))
          else watchers (if based && (uses || false) then least_with mark store.changes else store.changes))
          ≡ (if uses then least_with mark (least_mark store ms file) else least_mark store ms file)
      by true true rest = ap timers (pull (watches (file ∷ [])) ms mark store.changes) ∙ pull (is_timer_of (file ∷ [])) ms mark (watchers store.changes) ∙ ap (least_with mark) rest
      by true false rest = rest
      by false true rest = pull (is_timer_of (file ∷ [])) ms mark (watchers store.changes) ∙ ap (least_with mark) rest
      by false false rest = rest

  pub least_is : (ms : List Kept) → InstallsRise ms → (file : ℕ) → least_among store ms (timers_of (file ∷ []) ms) (least_among store ms (watchers_of (file ∷ []) ms) store.changes) ≡ least_mark store ms file
  least_is ms rise file =
      let found = found_each ms rise in
      among_by (is_timer_of (file ∷ [])) ms ms found (least_among store ms (watchers_of (file ∷ []) ms) store.changes)
      ∙ ap (least_by (is_timer_of (file ∷ [])) ms) (among_by (watches (file ∷ [])) ms ms found store.changes)
      ∙ parts file ms

  -- it is at most the number of changes
  pub least_few : (file : ℕ) (ms : List Kept) → least_mark store ms file ≤ store.changes
  least_few file [] = omega arith
  least_few file (m ∷ ms) =
      let rest = least_few file ms in
      elim (m.file.0 == file) as (λ t. (if t then least_with (mark_in store m) (least_mark store ms file) else least_mark store ms file) ≤ store.changes) [
        | true ↦ (let few = with_few (mark_in store m) (least_mark store ms file) in omega (arith, few, rest))
        | false ↦ rest
      ]

  -- a number that is at most this mark of a subscription, if it has the file
  abbrev pub IsUnder : ℕ → ℕ → Kept → Type 0
  IsUnder file least m = m.file.0 ≡ file → IfSome (mark_in store m) (λ mark. least ≤ mark)

  under_more : (o : Option ℕ) (low least : ℕ) → low ≤ least → IfSome o (λ mark. least ≤ mark) → IfSome o (λ mark. low ≤ mark)
  under_more None low least less h = tt
  under_more (Some mark) low least less h = omega (arith, less, h)

  under_with : (o : Option ℕ) (least : ℕ) → IfSome o (λ mark. least_with o least ≤ mark)
  under_with None least = tt
  under_with (Some mark) least = omega arith

  -- and at most the mark of each that has the file
  pub least_under : (file : ℕ) (ms : List Kept) → AllByRecursion (IsUnder file (least_mark store ms file)) ms
  least_under file [] = tt
  least_under file (m ∷ ms) =
      let rest = least_under file ms in
      elim (m.file.0 == file) as (λ t. (m.file.0 == file) ≡ t → AllByRecursion (IsUnder file (if t then least_with (mark_in store m) (least_mark store ms file) else least_mark store ms file)) (m ∷ ms)) [
        | true ↦ λ is. (
          λ same. under_with (mark_in store m) (least_mark store ms file),
          each_more (IsUnder file (least_mark store ms file)) (IsUnder file (least_with (mark_in store m) (least_mark store ms file)))
              (λ n under same. under_more (mark_in store n) (least_with (mark_in store m) (least_mark store ms file)) (least_mark store ms file) (with_few (mark_in store m) (least_mark store ms file)) (under same)) ms rest,
        )
        | false ↦ λ is. (λ same. absurd (let here : (m.file.0 == file) ≡ true = grind (arith, nat_tests, same) in cc), rest)
      ] refl
