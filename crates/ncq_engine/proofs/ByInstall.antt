-- Subscriptions that are found by their install numbers, which rise.
use Rattle.std.proofs.Common.{◌≡◌, ℕ, ◌<◌, Bool, true, false, not, ◌||◌, cond, List, [], ◌∷◌, ◌++◌, map, refl, ◌∙◌, ap, arith}
use Rattle.std.specs.Prelude.{Option, Some, None, ◌==◌, nat_eq, is_some, IsSome}
use Rattle.std.proofs.lemmas.Bool.Decides.{nat_tests}
use Rattle.std.specs.List.{filter, flat_map, list_any, AllByRecursion}
use Rattle.ncq_book.specs.declared.subscription.Subscription.{Subscription as Kept}
use Rattle.ncq_book.specs.Books.{InstallsRise, is_of, subscription_of}
use Rattle.ncq_event.specs.Calendars.{firing_at}
use Rattle.ncq_event.specs.declared.firing.Firing.{Firing}
use Rattle.ncq_engine.proofs.Lists.{each_both, each_more}

self_is : (n : ℕ) → (n == n) ≡ true
self_is n = grind (arith, nat_tests)

-- a subscription under its own number
pub found_first : (m : Kept) (ms : List Kept) → subscription_of m.install (m ∷ ms) ≡ Some m
found_first m ms = λ i. cond (self_is m.install i) (Some m) (subscription_of m.install ms)

-- and behind one of a smaller number
pub found_behind : (m : Kept) (ms : List Kept) (install : ℕ) → m.install < install → subscription_of install (m ∷ ms) ≡ subscription_of install ms
found_behind m ms install less =
    let other : is_of install m ≡ false = grind (arith, nat_tests, less) in
    λ i. cond (other i) (Some m) (subscription_of install ms)

-- each is found under its number
abbrev pub AreFound : List Kept → List Kept → Type 0
AreFound all ms = AllByRecursion (λ m. subscription_of m.install all ≡ Some m) ms

pub found_each : (ms : List Kept) → InstallsRise ms → AreFound ms ms
found_each [] r = tt
found_each (m ∷ ms) r = (
  found_first m ms,
  each_both (λ x. m.install < x.install) (λ x. subscription_of x.install ms ≡ Some x) (λ x. subscription_of x.install (m ∷ ms) ≡ Some x)
      (λ x less found. found_behind m ms x.install less ∙ found) ms r.0 (found_each ms r.1),
)

-- the install numbers of those that pass a test
abbrev pub numbers : (Kept → Bool) → List Kept → List ℕ
numbers test ms = map (λ m. m.install) (filter test ms)

module _ (test : Kept → Bool) where
  none_below : (n : ℕ) (ms : List Kept) → AllByRecursion (λ m. n < m.install) ms → list_any (λ i. i == n) (numbers test ms) ≡ false
  none_below n [] h = refl
  none_below n (m ∷ ms) h =
      let less = h.0 in
      let other : (m.install == n) ≡ false = grind (arith, nat_tests, less) in
      elim (test m) as (λ t. list_any (λ i. i == n) (map (λ m. m.install) (cond t (m ∷ filter test ms) (filter test ms))) ≡ false) [
        | true ↦ (λ i. other i || list_any (λ i. i == n) (numbers test ms)) ∙ none_below n ms h.1
        | false ↦ none_below n ms h.1
      ]

  first_chosen : (m : Kept) (ms : List Kept) → AllByRecursion (λ x. m.install < x.install) ms → list_any (λ i. i == m.install) (numbers test (m ∷ ms)) ≡ test m
  first_chosen m ms h =
      elim (test m) as (λ t. list_any (λ i. i == m.install) (map (λ m. m.install) (cond t (m ∷ filter test ms) (filter test ms))) ≡ t) [
        | true ↦ λ i. self_is m.install i || list_any (λ i. i == m.install) (numbers test ms)
        | false ↦ none_below m.install ms h
      ]

  chosen_behind : (m : Kept) (ms : List Kept) (n : ℕ) → m.install < n → list_any (λ i. i == n) (numbers test (m ∷ ms)) ≡ list_any (λ i. i == n) (numbers test ms)
  chosen_behind m ms n less =
      let other : (m.install == n) ≡ false = grind (arith, nat_tests, less) in
      elim (test m) as (λ t. list_any (λ i. i == n) (map (λ m. m.install) (cond t (m ∷ filter test ms) (filter test ms))) ≡ list_any (λ i. i == n) (numbers test ms)) [
        | true ↦ λ i. other i || list_any (λ i. i == n) (numbers test ms)
        | false ↦ refl
      ]

  -- a number is among them exactly where its subscription passes
  pub chosen_each : (ms : List Kept) → InstallsRise ms → AllByRecursion (λ m. list_any (λ i. i == m.install) (numbers test ms) ≡ test m) ms
  chosen_each [] r = tt
  chosen_each (m ∷ ms) r = (
    first_chosen m ms r.0,
    each_both (λ x. m.install < x.install) (λ x. list_any (λ i. i == x.install) (numbers test ms) ≡ test x) (λ x. list_any (λ i. i == x.install) (numbers test (m ∷ ms)) ≡ test x)
        (λ x less e. chosen_behind m ms x.install less ∙ e) ms r.0 (chosen_each ms r.1),
  )

same_either : (m n : ℕ) → nat_eq m n ≡ (n == m)
same_either m n = grind (arith, nat_tests)

any_either : (n : ℕ) (xs : List ℕ) → list_any (nat_eq n) xs ≡ list_any (λ i. i == n) xs
any_either n [] = refl
any_either n (x ∷ xs) = λ i. same_either n x i || any_either n xs i

filter_alike : (f g : Kept → Bool) (xs : List Kept) → AllByRecursion (λ m. f m ≡ g m) xs → filter f xs ≡ filter g xs
filter_alike f g [] h = refl
filter_alike f g (x ∷ xs) h = λ i. cond (h.0 i) (x ∷ filter_alike f g xs h.1 i) (filter_alike f g xs h.1 i)

-- so they can be left out by their numbers
pub left_out : (test : Kept → Bool) (ms : List Kept) → InstallsRise ms
    → filter (λ m. not (list_any (nat_eq m.install) (numbers test ms))) ms ≡ filter (λ m. not (test m)) ms
left_out test ms r =
    filter_alike (λ m. not (list_any (nat_eq m.install) (numbers test ms))) (λ m. not (test m)) ms
    (each_more (λ m. list_any (λ i. i == m.install) (numbers test ms) ≡ test m) (λ m. not (list_any (nat_eq m.install) (numbers test ms)) ≡ not (test m))
    (λ m e. ap not (any_either m.install (numbers test ms) ∙ e)) ms (chosen_each test ms r))

-- the firings of subscriptions, each at its instant if it has one
abbrev pub firings_of : (Kept → Option ℕ) → List Kept → List Firing
firings_of instant ms = flat_map (λ m. firing_at m.install (instant m)) ms

module _ (instant : Kept → Option ℕ) where
  none_fires : (n : ℕ) (ms : List Kept) → AllByRecursion (λ m. n < m.install) ms → list_any (λ f. f.install == n) (firings_of instant ms) ≡ false
  none_fires n [] h = refl
  none_fires n (m ∷ ms) h =
      let less = h.0 in
      let other : (m.install == n) ≡ false = grind (arith, nat_tests, less) in
      elim (instant m) as (λ o. list_any (λ (f : Firing). f.install == n) (firing_at m.install o ++ firings_of instant ms) ≡ false) [
        | Some d ↦ (λ i. other i || list_any (λ (f : Firing). f.install == n) (firings_of instant ms)) ∙ none_fires n ms h.1
        | None ↦ none_fires n ms h.1
      ]

  first_fires : (m : Kept) (ms : List Kept) → AllByRecursion (λ x. m.install < x.install) ms → list_any (λ f. f.install == m.install) (firings_of instant (m ∷ ms)) ≡ is_some (instant m)
  first_fires m ms h =
      elim (instant m) as (λ o. list_any (λ (f : Firing). f.install == m.install) (firing_at m.install o ++ firings_of instant ms) ≡ is_some o) [
        | Some d ↦ λ i. self_is m.install i || list_any (λ (f : Firing). f.install == m.install) (firings_of instant ms)
        | None ↦ none_fires m.install ms h
      ]

  fires_behind : (m : Kept) (ms : List Kept) (n : ℕ) → m.install < n → list_any (λ f. f.install == n) (firings_of instant (m ∷ ms)) ≡ list_any (λ f. f.install == n) (firings_of instant ms)
  fires_behind m ms n less =
      let other : (m.install == n) ≡ false = grind (arith, nat_tests, less) in
      elim (instant m) as (λ o. list_any (λ (f : Firing). f.install == n) (firing_at m.install o ++ firings_of instant ms) ≡ list_any (λ (f : Firing). f.install == n) (firings_of instant ms)) [
        | Some d ↦ λ i. other i || list_any (λ (f : Firing). f.install == n) (firings_of instant ms)
        | None ↦ refl
      ]

  -- a subscription is among them exactly where it has an instant
  pub fires_each : (ms : List Kept) → InstallsRise ms → AllByRecursion (λ m. list_any (λ f. f.install == m.install) (firings_of instant ms) ≡ is_some (instant m)) ms
  fires_each [] r = tt
  fires_each (m ∷ ms) r = (
    first_fires m ms r.0,
    each_both (λ x. m.install < x.install) (λ x. list_any (λ f. f.install == x.install) (firings_of instant ms) ≡ is_some (instant x))
        (λ x. list_any (λ f. f.install == x.install) (firings_of instant (m ∷ ms)) ≡ is_some (instant x))
        (λ x less e. fires_behind m ms x.install less ∙ e) ms r.0 (fires_each ms r.1),
  )

  -- each is a subscription's
  pub fires_found : (all ms : List Kept) → AreFound all ms → AllByRecursion (λ f. IsSome (subscription_of f.install all)) (firings_of instant ms)
  fires_found all [] h = tt
  fires_found all (m ∷ ms) h = by_instant (instant m) (fires_found all ms h.1)
    where
      by_instant : (o : Option ℕ) → AllByRecursion (λ (f : Firing). IsSome (subscription_of f.install all)) (firings_of instant ms)
          → AllByRecursion (λ (f : Firing). IsSome (subscription_of f.install all)) (firing_at m.install o ++ firings_of instant ms)
      by_instant None rest = rest
      by_instant (Some d) rest = (ap is_some h.0, rest)
