-- What the book tells at a change and at a move of the clock, against the subscriptions.
use Rattle.std.proofs.Common.{◌≡◌, ℕ, ◌<◌, ◌==◌, ◌||◌, Bool, true, false, List, [], ◌∷◌, ◌++◌, map, refl, sym, ◌∙◌, ap, subst}
use Rattle.std.specs.Prelude.{Option, Some, None, nat_le, is_some, IsSome, if◌then◌else◌}
use Rattle.std.specs.List.{filter, flat_map, list_any, AllByRecursion}
use Rattle.ncq_book.specs.declared.subscription.Subscription.{Subscription as Kept}
use Rattle.ncq_book.specs.Books.{InstallsRise, subscription_of, timing_of}
use Rattle.ncq_callback.specs.Labels.{Handed}
use Rattle.ncq_distinct.specs.DistinctTables.{DistinctTable}
use Rattle.ncq_event.specs.declared.firing.Firing.{Firing}
use Rattle.ncq_event.specs.Calendars.{due_firings}
use Rattle.ncq_event.specs.Orders.{ordered, ordered_by, placed_by, is_before}
use Rattle.ncq_shelf.specs.KeptFiles.{Files}
use Rattle.ncq_source.specs.StoreStates.{StoreState}
use Rattle.ncq_engine.specs.Engines.{NoticeText, fired_if, moved_instant}
use Rattle.ncq_engine.specs.Tellings.{firing_text, has_started, is_news_at, noted_by, started_at}
use Rattle.ncq_engine.proofs.ByInstall.{fires_each, fires_found, firings_of, found_each}
use Rattle.ncq_engine.proofs.CreateLaws.{created_firings, created_instant}
use Rattle.ncq_engine.proofs.FiringLaws.{firing_spans, move_firings, move_places, move_texts, told_places, told_texts}
use Rattle.ncq_engine.proofs.Lists.{each_more}
use Rattle.ncq_engine.proofs.NotedLaws.{fired_subscriptions}
use Rattle.ncq_engine.proofs.ToldLaws.{told_of, told_spans}

-- each firing of one that has started is that of a subscription
pub started_there : (now : ℕ) (subscriptions : List Kept) (installs : List ℕ) → AllByRecursion (λ f. IsSome (subscription_of f.install subscriptions)) (flat_map (started_at now subscriptions) installs)
started_there now subscriptions [] = tt
started_there now subscriptions (n ∷ more) = by (started_there now subscriptions more) (subscription_of n subscriptions) refl
  where
    by : AllByRecursion (λ f. IsSome (subscription_of f.install subscriptions)) (flat_map (started_at now subscriptions) more) → (o : Option Kept) → subscription_of n subscriptions ≡ o
        → AllByRecursion (λ f. IsSome (subscription_of f.install subscriptions)) ((if has_started now o then record { instant = now; install = n } ∷ [] else []) ++ flat_map (started_at now subscriptions) more)
    by rest None e = rest
    by rest (Some m) e =
        elim (nat_le m.timing.start now) as (λ t. AllByRecursion (λ f. IsSome (subscription_of f.install subscriptions)) ((if t then record { instant = now; install = n } ∷ [] else []) ++ flat_map (started_at now subscriptions) more)) [
          | true ↦ (subst IsSome (sym e) refl, rest)
          | false ↦ rest
        ]

any_placed : (test : Firing → Bool) (x : Firing) (xs : List Firing) → list_any test (placed_by (λ f. f) x xs) ≡ (test x || list_any test xs)
any_placed test x [] = refl
any_placed test x (y ∷ ys) =
    elim (is_before x y) as (λ t. list_any test (if t then x ∷ y ∷ ys else y ∷ placed_by (λ f. f) x ys) ≡ (test x || (test y || list_any test ys))) [
      | true ↦ refl
      | false ↦ (λ i. test y || any_placed test x ys i) ∙ swap (test y) (test x) (list_any test ys)
    ]
  where
    swap : (a b c : Bool) → (a || (b || c)) ≡ (b || (a || c))
    swap true true c = refl
    swap true false c = refl
    swap false b c = refl

any_ordered : (test : Firing → Bool) (xs : List Firing) → list_any test (ordered xs) ≡ list_any test xs
any_ordered test [] = refl
any_ordered test (x ∷ xs) = any_placed test x (ordered xs) ∙ (λ i. test x || any_ordered test xs i)

each_placed : (P : Firing → Type 0) (x : Firing) (xs : List Firing) → P x → AllByRecursion P xs → AllByRecursion P (placed_by (λ f. f) x xs)
each_placed P x [] p h = (p, tt)
each_placed P x (y ∷ ys) p h = elim (is_before x y) as (λ t. AllByRecursion P (if t then x ∷ y ∷ ys else y ∷ placed_by (λ f. f) x ys)) [ true ↦ (p, h) | false ↦ (h.0, each_placed P x ys p h.1) ]

each_ordered : (P : Firing → Type 0) (xs : List Firing) → AllByRecursion P xs → AllByRecursion P (ordered xs)
each_ordered P [] h = tt
each_ordered P (x ∷ xs) h = each_placed P x (ordered xs) h.0 (each_ordered P xs h.1)

-- a move of the clock
module _ (store : StoreState) (now to : ℕ) (subscriptions : List Kept) (rise : InstallsRise subscriptions)
    (due firings slice : List Firing) (d : due ≡ due_firings now to (map timing_of subscriptions)) (f : firings ≡ filter (is_news_at store subscriptions) due) (s : slice ≡ firings) where
  move_is : slice ≡ ordered (firings_of (moved_instant store now to) subscriptions)
  move_is = s ∙ move_firings store now to subscriptions rise due firings d f

  pub move_there : AllByRecursion (λ f. IsSome (subscription_of f.install subscriptions)) slice
  move_there = subst (AllByRecursion (λ f. IsSome (subscription_of f.install subscriptions))) (sym move_is)
      (each_ordered (λ f. IsSome (subscription_of f.install subscriptions)) (firings_of (moved_instant store now to) subscriptions) (fires_found (moved_instant store now to) subscriptions subscriptions (found_each subscriptions rise)))

  pub move_text : (handed : Handed) (files : Files) (distinct : DistinctTable) → flat_map (firing_text handed store files distinct subscriptions) slice
      ≡ flat_map (λ (t : NoticeText). t.text) (ordered_by (λ (t : NoticeText). t.firing) (told_of handed store files distinct (moved_instant store now to) subscriptions))
  move_text handed files distinct = move_texts handed store files distinct subscriptions now to rise slice move_is

  pub move_place : (handed : Handed) (files : Files) (distinct : DistinctTable) (from : ℕ) → firing_spans handed store files distinct subscriptions from slice
      ≡ told_spans from (ordered_by (λ (t : NoticeText). t.firing) (told_of handed store files distinct (moved_instant store now to) subscriptions))
  move_place handed files distinct from = move_places handed store files distinct subscriptions now to rise slice move_is from

  -- those fire that have an instant
  pub move_fires : AllByRecursion (λ m. list_any (λ f. f.install == m.install) slice ≡ is_some (moved_instant store now to m)) subscriptions
  move_fires =
      subst (λ (fs : List Firing). AllByRecursion (λ m. list_any (λ f. f.install == m.install) fs ≡ is_some (moved_instant store now to m)) subscriptions) (sym move_is)
      (each_more (λ m. list_any (λ f. f.install == m.install) (firings_of (moved_instant store now to) subscriptions) ≡ is_some (moved_instant store now to m))
      (λ m. list_any (λ f. f.install == m.install) (ordered (firings_of (moved_instant store now to) subscriptions)) ≡ is_some (moved_instant store now to m))
      (λ m e. any_ordered (λ f. f.install == m.install) (firings_of (moved_instant store now to) subscriptions) ∙ e) subscriptions (fires_each (moved_instant store now to) subscriptions rise))

  -- those that are told are noted
  pub move_fired : noted_by store.changes slice subscriptions ≡ map (λ m. fired_if (is_some (moved_instant store now to m)) store m) subscriptions
  move_fired = fired_subscriptions store (λ m. is_some (moved_instant store now to m)) slice subscriptions move_fires

-- a create of the last subscription
module _ (store : StoreState) (now : ℕ) (olds : List Kept) (made : Kept) (rise : InstallsRise (olds ++ made ∷ [])) (below : AllByRecursion (λ n. n.install < made.install) olds)
    (installs : List ℕ) (firings slice : List Firing) (n : installs ≡ made.install ∷ []) (f : firings ≡ flat_map (started_at now (olds ++ made ∷ [])) installs) (s : slice ≡ firings) where
  abbrev all : List Kept
  all = olds ++ made ∷ []

  abbrev instant : Kept → Option ℕ
  instant = created_instant now made.install

  create_is : slice ≡ firings_of instant all
  create_is = s ∙ f ∙ ap (flat_map (started_at now all)) n ∙ created_firings now olds made below

  pub create_there : AllByRecursion (λ f. IsSome (subscription_of f.install (olds ++ made ∷ []))) slice
  create_there = subst (AllByRecursion (λ f. IsSome (subscription_of f.install all))) (sym create_is) (fires_found instant all all (found_each all rise))

  pub create_text : (handed : Handed) (files : Files) (distinct : DistinctTable) → flat_map (firing_text handed store files distinct (olds ++ made ∷ [])) slice
      ≡ flat_map (λ (t : NoticeText). t.text) (told_of handed store files distinct (created_instant now made.install) (olds ++ made ∷ []))
  create_text handed files distinct = told_texts handed store files distinct all instant rise slice create_is

  pub create_place : (handed : Handed) (files : Files) (distinct : DistinctTable) (from : ℕ) → firing_spans handed store files distinct (olds ++ made ∷ []) from slice
      ≡ told_spans from (told_of handed store files distinct (created_instant now made.install) (olds ++ made ∷ []))
  create_place handed files distinct from = told_places handed store files distinct all instant rise slice create_is from

  -- it fires where it has an instant
  pub create_fires : AllByRecursion (λ m. list_any (λ f. f.install == m.install) slice ≡ is_some (created_instant now made.install m)) (olds ++ made ∷ [])
  create_fires = subst (λ (fs : List Firing). AllByRecursion (λ m. list_any (λ f. f.install == m.install) fs ≡ is_some (instant m)) all) (sym create_is) (fires_each instant all rise)

  -- it is noted where it is told
  pub create_fired : noted_by store.changes slice (olds ++ made ∷ []) ≡ map (λ m. fired_if (is_some (created_instant now made.install m)) store m) (olds ++ made ∷ [])
  create_fired = fired_subscriptions store (λ m. is_some (instant m)) slice all create_fires
