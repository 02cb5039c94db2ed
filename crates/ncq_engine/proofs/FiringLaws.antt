-- The firings that the book tells, against the subscriptions that fire.
use Rattle.std.proofs.Common.{◌≡◌, ℕ, ◌+◌, Bool, true, false, cond, List, [], ◌∷◌, ◌++◌, map, length, refl, sym, ◌∙◌, ap}
use Rattle.std.specs.Prelude.{Option, Some, None, if◌then◌else◌}
use Rattle.std.specs.List.{filter, flat_map}
use Rattle.ncq_book.specs.declared.subscription.Subscription.{Subscription as Kept}
use Rattle.ncq_book.specs.Books.{InstallsRise, subscription_of, timing_of}
use Rattle.ncq_callback.specs.Labels.{Handed}
use Rattle.ncq_distinct.specs.DistinctTables.{DistinctTable}
use Rattle.ncq_event.specs.declared.firing.Firing.{Firing}
use Rattle.ncq_event.specs.Calendars.{due_firings, due_of, firing_at}
use Rattle.ncq_event.specs.Instants.{due}
use Rattle.ncq_event.specs.Orders.{is_firing, ordered, ordered_by}
use Rattle.ncq_event.proofs.OrderLaws.{order_unique, ordered_rising, ordered_times}
use Rattle.ncq_event.proofs.CalendarLaws.{filter_rising, times_kept}
use Rattle.ncq_source.specs.StoreStates.{StoreState}
use Rattle.ncq_engine.specs.Engines.{NoticeText, has_news_in, mark_in, moved_instant, notice_texts, notice_text}
use Rattle.ncq_engine.specs.declared.span.Span.{Span}
use Rattle.ncq_engine.specs.Spans.{span_of, spans_of}
use Rattle.ncq_engine.specs.Tellings.{firing_name, firing_text, has_its_news, is_news_at, name_of, text_of}
use Rattle.ncq_engine.proofs.ByInstall.{AreFound, firings_of, found_each}
use Rattle.ncq_engine.proofs.Lists.{filter_append}
use Rattle.ncq_engine.proofs.ToldLaws.{order_made, told_of, told_spans}
use Rattle.ncq_shelf.specs.KeptFiles.{Files}

-- a firing with its text
module _ (handed : Handed) (store : StoreState) (files : Files) (distinct : DistinctTable) (all : List Kept) where
  abbrev with_text : Firing → NoticeText
  with_text firing = record { firing = firing; name = firing_name all firing; text = firing_text handed store files distinct all firing }

  text_found : (instant : ℕ) (o : Option Kept) (m : Kept) → o ≡ Some m → text_of handed store files distinct instant o ≡ notice_text handed store files distinct m instant
  text_found instant o m e = ap (text_of handed store files distinct instant) e

  name_found : (o : Option Kept) (m : Kept) → o ≡ Some m → name_of o ≡ m.name
  name_found o m e = ap name_of e

  map_push : (xs ys : List Firing) → map with_text (xs ++ ys) ≡ map with_text xs ++ map with_text ys
  map_push [] ys = refl
  map_push (x ∷ xs) ys = ap (λ more. with_text x ∷ more) (map_push xs ys)

  module _ (instant : Kept → Option ℕ) where
    one_told : (m : Kept) (o : Option ℕ) → subscription_of m.install all ≡ Some m → map with_text (firing_at m.install o) ≡ notice_texts handed store files distinct m o
    one_told m None e = refl
    one_told m (Some d) e = λ i. record { firing = record { instant = d; install = m.install }; name = name_found (subscription_of m.install all) m e i; text = text_found d (subscription_of m.install all) m e i } ∷ []

    -- the firings of subscriptions, with their texts, are their notices
    told_is : (ms : List Kept) → AreFound all ms → map with_text (firings_of instant ms) ≡ told_of handed store files distinct instant ms
    told_is [] h = refl
    told_is (m ∷ ms) h = map_push (firing_at m.install (instant m)) (firings_of instant ms) ∙ (λ i. one_told m (instant m) h.0 i ++ told_is ms h.1 i)

  texts_are : (xs : List Firing) → flat_map (firing_text handed store files distinct all) xs ≡ flat_map (λ (t : NoticeText). t.text) (map with_text xs)
  texts_are [] = refl
  texts_are (x ∷ xs) = ap (λ more. firing_text handed store files distinct all x ++ more) (texts_are xs)

  -- where their notices stand
  abbrev pub firing_spans : ℕ → List Firing → List Span
  firing_spans from firings = spans_of (firing_name all) (firing_text handed store files distinct all) from firings

  spans_are : (from : ℕ) (xs : List Firing) → firing_spans from xs ≡ told_spans from (map with_text xs)
  spans_are from [] = refl
  spans_are from (x ∷ xs) =
      let text = firing_text handed store files distinct all x in
      ap (λ more. span_of (firing_name all x) from text ++ more) (spans_are (from + length text) xs)

  -- the texts of firings are those of the subscriptions that fire
  module _ (instant : Kept → Option ℕ) (rise : InstallsRise all) where
    pub told_texts : (firings : List Firing) → firings ≡ firings_of instant all → flat_map (firing_text handed store files distinct all) firings ≡ flat_map (λ (t : NoticeText). t.text) (told_of handed store files distinct instant all)
    told_texts firings e =
        ap (flat_map (firing_text handed store files distinct all)) e ∙ texts_are (firings_of instant all)
        ∙ ap (flat_map (λ (t : NoticeText). t.text)) (told_is instant all (found_each all rise))

    pub told_places : (firings : List Firing) → firings ≡ firings_of instant all → (from : ℕ) → firing_spans from firings ≡ told_spans from (told_of handed store files distinct instant all)
    told_places firings e from = ap (firing_spans from) e ∙ spans_are from (firings_of instant all) ∙ ap (told_spans from) (told_is instant all (found_each all rise))

  -- and so are those of a move of the clock, in the order of the firings
  module _ (now to : ℕ) (rise : InstallsRise all) where
    abbrev moved : List NoticeText
    moved = told_of handed store files distinct (moved_instant store now to) all

    moved_is : map with_text (firings_of (moved_instant store now to) all) ≡ moved
    moved_is = told_is (moved_instant store now to) all (found_each all rise)

    pub move_texts : (firings : List Firing) → firings ≡ ordered (firings_of (moved_instant store now to) all)
        → flat_map (firing_text handed store files distinct all) firings ≡ flat_map (λ (t : NoticeText). t.text) (ordered_by (λ (t : NoticeText). t.firing) moved)
    move_texts firings e =
        let own = firings_of (moved_instant store now to) all in
        ap (flat_map (firing_text handed store files distinct all)) e ∙ texts_are (ordered own)
        ∙ ap (flat_map (λ (t : NoticeText). t.text)) (sym (order_made with_text (λ (f : Firing). f) (λ (t : NoticeText). t.firing) (λ x. refl) own) ∙ ap (ordered_by (λ (t : NoticeText). t.firing)) moved_is)

    pub move_places : (firings : List Firing) → firings ≡ ordered (firings_of (moved_instant store now to) all)
        → (from : ℕ) → firing_spans from firings ≡ told_spans from (ordered_by (λ (t : NoticeText). t.firing) moved)
    move_places firings e from =
        let own = firings_of (moved_instant store now to) all in
        ap (firing_spans from) e ∙ spans_are from (ordered own)
        ∙ ap (told_spans from) (sym (order_made with_text (λ (f : Firing). f) (λ (t : NoticeText). t.firing) (λ x. refl) own) ∙ ap (ordered_by (λ (t : NoticeText). t.firing)) moved_is)

-- an order of those that are kept
pub kept_in_order : (test : Firing → Bool) (xs : List Firing) → filter test (ordered xs) ≡ ordered (filter test xs)
kept_in_order test xs = order_unique (filter test xs) (filter test (ordered xs)) (filter_rising test (ordered xs) (ordered_rising xs))
    (λ f. times_kept test f (ordered xs) ∙ ap (λ n. cond (test f) n 0) (ordered_times (is_firing f) xs) ∙ sym (times_kept test f xs))

-- the due firings with news are those of the subscriptions that a move fires
module _ (store : StoreState) (now to : ℕ) (all : List Kept) where
  news_found : (m : Kept) → subscription_of m.install all ≡ Some m → has_its_news store (subscription_of m.install all) ≡ has_news_in store (mark_in store m) m.sources
  news_found m e = ap (has_its_news store) e

  one_due : (m : Kept) (o : Option ℕ) → subscription_of m.install all ≡ Some m
      → filter (is_news_at store all) (firing_at m.install o) ≡ firing_at m.install (if has_news_in store (mark_in store m) m.sources then o else None)
  one_due m None e = elim (has_news_in store (mark_in store m) m.sources) as (λ t. [] ≡ firing_at m.install (if t then None else None)) [ true ↦ refl | false ↦ refl ]
  one_due m (Some d) e =
      let f : Firing = record { instant = d; install = m.install } in
      (λ i. cond (news_found m e i) (f ∷ []) [])
      ∙ (elim (has_news_in store (mark_in store m) m.sources) as (λ t. cond t (f ∷ []) [] ≡ firing_at m.install (if t then Some d else None)) [ true ↦ refl | false ↦ refl ])

  due_kept : (ms : List Kept) → AreFound all ms → filter (is_news_at store all) (flat_map (due_of now to) (map timing_of ms)) ≡ firings_of (moved_instant store now to) ms
  due_kept [] h = refl
  due_kept (m ∷ ms) h =
      filter_append (is_news_at store all) (due_of now to (timing_of m)) (flat_map (due_of now to) (map timing_of ms))
      ∙ (λ i. one_due m (due m.timing now to) h.0 i ++ due_kept ms h.1 i)

  pub move_firings : InstallsRise all → (due firings : List Firing) → due ≡ due_firings now to (map timing_of all) → firings ≡ filter (is_news_at store all) due
      → firings ≡ ordered (firings_of (moved_instant store now to) all)
  move_firings rise due firings d f =
      f ∙ ap (filter (is_news_at store all)) d ∙ kept_in_order (is_news_at store all) (flat_map (due_of now to) (map timing_of all))
      ∙ ap ordered (due_kept all (found_each all rise))
