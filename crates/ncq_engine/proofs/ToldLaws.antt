-- Who fires, in which order, and what they are told: the subscriptions of the history against those that are kept.
use Rattle.std.proofs.Common.{◌≡◌, ℕ, ◌+◌, ◌<◌, ◌≤◌, Bool, true, false, not, cond, List, [], ◌∷◌, ◌++◌, map, length, refl, sym, ◌∙◌, ap, arith}
use Rattle.std.specs.Prelude.{Option, Some, None, if◌then◌else◌}
use Rattle.std.proofs.lemmas.Bool.Decides.{nat_tests}
use Rattle.std.specs.List.{filter, flat_map, AllByRecursion}
use Rattle.ncq_callback.specs.Labels.{Handed}
use Rattle.ncq_distinct.specs.DistinctTables.{DistinctTable}
use Rattle.ncq_event.specs.declared.firing.Firing.{Firing}
use Rattle.ncq_event.specs.Orders.{is_before, placed_by, ordered_by}
use Rattle.ncq_script.specs.declared.command.Command.{Command}
use Rattle.ncq_script.specs.declared.command.Command.TheVariants.{Declare, Delta, Batch, Create, Delete, Clock, Report, Malformed}
use Rattle.ncq_source.specs.StoreStates.{StoreState}
use Rattle.ncq_book.specs.declared.subscription.Subscription.{Subscription as Kept}
use Rattle.ncq_engine.specs.DistinctCounts.{IsCounted}
use Rattle.ncq_engine.specs.Engines.{NoticeText}
use Rattle.ncq_engine.specs.Engines.{CanTell, Pairwise, last_in, notice_texts, notice_text}
use Rattle.ncq_engine.specs.Firing.{fires}
use Rattle.ncq_event.specs.Instants.{is_expired}
use Rattle.ncq_engine.specs.History.{History, Subscription, changes, created, creates, is_named, last_change, live, timing_of}
use Rattle.ncq_engine.specs.Languages.{language_of}
use Rattle.ncq_engine.specs.Notices.{fired_at, firings, notice_at, firings_in_order}
use Rattle.ncq_engine.specs.Marks.{IsRising}
use Rattle.ncq_engine.specs.declared.span.Span.{Span}
use Rattle.ncq_engine.specs.Spans.{span_of, spans_of}
use Rattle.ncq_engine.specs.Stands.{AreContents, Keeps}
use Rattle.ncq_group.specs.Tables.{TableState}
use Rattle.ncq_shelf.specs.Contents.{AreUpTo}
use Rattle.ncq_shelf.specs.KeptFiles.{Files}
use Rattle.ncq_engine.proofs.Lists.{each_filter, each_push}
use Rattle.ncq_engine.proofs.HistoryLaws.{installed}
use Rattle.ncq_engine.proofs.NoticeLaws.{text_is}

abbrev Fired : Type 0
Fired = Firing × Subscription

module _ {A B : Type 0} (g : A → B) (of_a : A → Firing) (of_b : B → Firing) (same : (x : A) → of_b (g x) ≡ of_a x) where
  -- an order of what is made of each
  place_made : (x : A) (xs : List A) → placed_by of_b (g x) (map g xs) ≡ map g (placed_by of_a x xs)
  place_made x [] = refl
  place_made x (y ∷ ys) =
      (λ i. if is_before (same x i) (same y i) then g x ∷ g y ∷ map g ys else g y ∷ place_made x ys i)
      ∙ (elim (is_before (of_a x) (of_a y)) as (λ t. (if t then g x ∷ g y ∷ map g ys else g y ∷ map g (placed_by of_a x ys)) ≡ map g (if t then x ∷ y ∷ ys else y ∷ placed_by of_a x ys)) [ true ↦ refl | false ↦ refl ])

  pub order_made : (xs : List A) → ordered_by of_b (map g xs) ≡ map g (ordered_by of_a xs)
  order_made [] = refl
  order_made (x ∷ xs) = ap (placed_by of_b (g x)) (order_made xs) ∙ place_made x (ordered_by of_a xs)

module _ {A : Type 0} (of_a : A → Firing) where
  -- each can stand before all behind it
  abbrev pub AreInOrder : List A → Type 0
  AreInOrder [] = Unit {0}
  AreInOrder (x ∷ xs) = AllByRecursion (λ y. is_before (of_a x) (of_a y) ≡ true) xs × AreInOrder xs

  place_first : (x : A) (xs : List A) → AllByRecursion (λ y. is_before (of_a x) (of_a y) ≡ true) xs → placed_by of_a x xs ≡ x ∷ xs
  place_first x [] h = refl
  place_first x (y ∷ ys) h = λ i. if h.0 i then x ∷ y ∷ ys else y ∷ placed_by of_a x ys

  -- what is in order stays as it is
  pub order_stays : (xs : List A) → AreInOrder xs → ordered_by of_a xs ≡ xs
  order_stays [] h = refl
  order_stays (x ∷ xs) h = ap (placed_by of_a x) (order_stays xs h.1) ∙ place_first x xs h.0

-- subscriptions, each with a greater install number than those before it
abbrev pub Rises : List Subscription → Type 0
Rises [] = Unit {0}
Rises (s ∷ more) = AllByRecursion (λ t. s.install < t.install) more × Rises more

rises_push : (n : ℕ) (xs : List Subscription) (x : Subscription) → Rises xs → AllByRecursion (λ s. s.install ≤ n) xs → n < x.install → Rises (xs ++ x ∷ [])
rises_push n [] x r u less = (tt, tt)
rises_push n (s ∷ xs) x r u less =
    let first = u.0 in
    (each_push (λ (t : Subscription). s.install < t.install) xs x r.0 (omega (arith, first, less)), rises_push n xs x r.1 u.1 less)

rises_filter : (keep : Subscription → Bool) (xs : List Subscription) → Rises xs → Rises (filter keep xs)
rises_filter keep [] r = tt
rises_filter keep (s ∷ xs) r =
    elim (keep s) as (λ t. Rises (cond t (s ∷ filter keep xs) (filter keep xs))) [
      | true ↦ (each_filter (λ (t : Subscription). s.install < t.install) keep xs r.0, rises_filter keep xs r.1)
      | false ↦ rises_filter keep xs r.1
    ]

-- the live subscriptions stand in the order of their install numbers
pub live_rises : (h : History) → Rises (live h)
live_rises [] = tt
live_rises ((Declare name root key) ∷ before) = live_rises before
live_rises ((Delta changed) ∷ before) = live_rises before
live_rises ((Batch changed) ∷ before) = live_rises before
live_rises ((Create statement) ∷ before) = rises_push (creates before) (live before) (created statement before) (live_rises before) (installed before) (let l : creates before < creates before + 1 = omega arith in l)
live_rises ((Delete name) ∷ before) = rises_filter (λ s. not (is_named name s)) (live before) (live_rises before)
live_rises ((Clock instant) ∷ before) = rises_filter (λ s. not (is_expired (timing_of s) instant)) (live before) (live_rises before)
live_rises (Report ∷ before) = live_rises before
live_rises ((Malformed why) ∷ before) = live_rises before

-- all that fire at one instant, in the order of their install numbers, are in order
module _ (instant : ℕ) (fired : Subscription → Option ℕ) (one : (s : Subscription) (d : ℕ) → fired s ≡ Some d → d ≡ instant) where
  abbrev listed : List Subscription → List Fired
  listed xs = flat_map (λ s. fired_at s (fired s)) xs

  behind_all : (n d : ℕ) → d ≡ instant → (xs : List Subscription) → AllByRecursion (λ t. n < t.install) xs
      → AllByRecursion (λ (y : Fired). is_before (record { instant = d; install = n }) y.0 ≡ true) (listed xs)
  behind_all n d same [] h = tt
  behind_all n d same (t ∷ xs) h = by_firing (behind_all n d same xs h.1) (fired t) refl
    where
      by_firing : AllByRecursion (λ (y : Fired). is_before (record { instant = d; install = n }) y.0 ≡ true) (listed xs)
          → (o : Option ℕ) → fired t ≡ o → AllByRecursion (λ (y : Fired). is_before (record { instant = d; install = n }) y.0 ≡ true) (fired_at t o ++ listed xs)
      by_firing rest None e = rest
      by_firing rest (Some c) e =
          let same' = one t c e in let less = h.0 in
          let b : is_before (record { instant = d; install = n }) (record { instant = c; install = t.install }) ≡ true = grind (arith, nat_tests, same, same', less) in
          (b, rest)

  pub one_instant : (xs : List Subscription) → Rises xs → AreInOrder (λ (f : Fired). f.0) (listed xs)
  one_instant [] r = tt
  one_instant (s ∷ xs) r = by_firing (one_instant xs r.1) (fired s) refl
    where
      by_firing : AreInOrder (λ (f : Fired). f.0) (listed xs) → (o : Option ℕ) → fired s ≡ o → AreInOrder (λ (f : Fired). f.0) (fired_at s o ++ listed xs)
      by_firing rest None e = rest
      by_firing rest (Some c) e = (behind_all s.install c (one s c e) xs r.0, rest)

-- where the notices of what is told stand, from this place on
abbrev pub told_spans : ℕ → List NoticeText → List Span
told_spans from list = spans_of (λ (t : NoticeText). t.name) (λ (t : NoticeText). t.text) from list

-- what subscriptions are told, each with its firing
abbrev pub told_of : Handed → StoreState → Files → DistinctTable → (Kept → Option ℕ) → List Kept → List NoticeText
told_of handed store files distinct instant ms = flat_map (λ m. notice_texts handed store files distinct m (instant m)) ms

module _ (handed : Handed) (h : History) (command : Command) where
  -- the notice of a firing, with the firing
  abbrev pub noticed : Fired → NoticeText
  noticed f = record { firing = f.0; name = f.1.statement.name; text = notice_at (language_of handed) h command f }

  map_push : (xs ys : List Fired) → map noticed (xs ++ ys) ≡ map noticed xs ++ map noticed ys
  map_push [] ys = refl
  map_push (x ∷ xs) ys = ap (λ more. noticed x ∷ more) (map_push xs ys)

  pub texts_of : (xs : List Fired) → flat_map (λ (t : NoticeText). t.text) (map noticed xs) ≡ flat_map (notice_at (language_of handed) h command) xs
  texts_of [] = refl
  texts_of (x ∷ xs) = ap (λ more. notice_at (language_of handed) h command x ++ more) (texts_of xs)

  -- where the notices of firings stand
  abbrev pub fired_spans : ℕ → List Fired → List Span
  fired_spans from xs = spans_of (λ (f : Fired). f.1.statement.name) (notice_at (language_of handed) h command) from xs

  pub spans_are : (from : ℕ) (xs : List Fired) → told_spans from (map noticed xs) ≡ fired_spans from xs
  spans_are from [] = refl
  spans_are from (x ∷ xs) =
      let text = notice_at (language_of handed) h command x in
      ap (λ more. span_of x.1.statement.name from text ++ more) (spans_are (from + length text) xs)

  -- in the order of the firings
  pub told_text_is : (list : List NoticeText) → list ≡ map noticed (firings h command)
      → flat_map (λ (t : NoticeText). t.text) (ordered_by (λ (t : NoticeText). t.firing) list) ≡ flat_map (notice_at (language_of handed) h command) (firings_in_order h command)
  told_text_is list e =
      ap (λ l. flat_map (λ (t : NoticeText). t.text) (ordered_by (λ (t : NoticeText). t.firing) l)) e
      ∙ ap (flat_map (λ (t : NoticeText). t.text)) (order_made noticed (λ (f : Fired). f.0) (λ (t : NoticeText). t.firing) (λ x. refl) (firings h command))
      ∙ texts_of (firings_in_order h command)

  pub told_spans_are : (list : List NoticeText) → list ≡ map noticed (firings h command)
      → (from : ℕ) → told_spans from (ordered_by (λ (t : NoticeText). t.firing) list) ≡ fired_spans from (firings_in_order h command)
  told_spans_are list e from =
      ap (λ l. told_spans from (ordered_by (λ (t : NoticeText). t.firing) l)) e
      ∙ ap (told_spans from) (order_made noticed (λ (f : Fired). f.0) (λ (t : NoticeText). t.firing) (λ x. refl) (firings h command))
      ∙ spans_are from (firings_in_order h command)

  module _ (store : StoreState) (files : Files) (distinct : DistinctTable) where
    -- what is kept of a subscription is told what the notice of its subscription says
    abbrev pub Tells : Subscription → Kept → Type 0
    Tells s m = (m.install ≡ s.install) × (m.name ≡ s.statement.name)
        × ((instant : ℕ) → notice_text handed store files distinct m instant ≡ notice_at (language_of handed) h command (record { instant = instant; install = s.install }, s))

    told_one : (s : Subscription) (m : Kept) (o : Option ℕ) → Tells s m → notice_texts handed store files distinct m o ≡ map noticed (fired_at s o)
    told_one s m None k = refl
    told_one s m (Some d) k = λ i. record { firing = record { instant = d; install = k.0 i }; name = k.1 i; text = k.2 d i } ∷ []

    -- what the subscriptions are told is what is told of their subscriptions
    pub told_list : (instant : Kept → Option ℕ) (subs : List Subscription) (ms : List Kept)
        → Pairwise (λ s m. Tells s m × (instant m ≡ fires s h command)) subs ms
        → told_of handed store files distinct instant ms ≡ map noticed (flat_map (λ s. fired_at s (fires s h command)) subs)
    told_list instant [] [] p = refl
    told_list instant [] (m ∷ ms) p = absurd p
    told_list instant (s ∷ subs) [] p = absurd p
    told_list instant (s ∷ subs) (m ∷ ms) p =
        (λ i. notice_texts handed store files distinct m (p.0.1 i) ++ told_list instant subs ms p.1 i)
        ∙ (λ i. told_one s m (fires s h command) p.0.0 i ++ map noticed (flat_map (λ s. fired_at s (fires s h command)) subs))
        ∙ sym (map_push (fired_at s (fires s h command)) (flat_map (λ s. fired_at s (fires s h command)) subs))

-- the subscriptions of an engine that follows the history are told what the notices say: the store and the counts are those before the command, and the files are those behind it
module _ (handed : Handed) (h : History) (command : Command) (store : StoreState) (table : TableState) (distinct : DistinctTable)
    (last : (name : List ℕ) → last_in store name ≡ last_change name h) (rising : IsRising h) (contents : AreContents table.files (command ∷ h))
    (upto : AreUpTo (changes (command ∷ h)) table.files) where
  pub tells_one : (s : Subscription) (m : Kept) → Keeps handed h s m → CanTell handed store table m → IsCounted handed.relations h distinct s → Tells handed h command store table.files distinct s m
  tells_one s m k can counted = (k.install, k.name, λ instant. text_is handed h command store table last rising contents upto s m k can distinct counted instant)

  pub tells_each : (instant : Kept → Option ℕ) (subs : List Subscription) (ms : List Kept) → Pairwise (λ s m. Keeps handed h s m × (instant m ≡ fires s h command)) subs ms
      → AllByRecursion (CanTell handed store table) ms → AllByRecursion (IsCounted handed.relations h distinct) subs
      → Pairwise (λ s m. Tells handed h command store table.files distinct s m × (instant m ≡ fires s h command)) subs ms
  tells_each instant [] [] p c counted = tt
  tells_each instant [] (m ∷ ms) p c counted = absurd p
  tells_each instant (s ∷ subs) [] p c counted = absurd p
  tells_each instant (s ∷ subs) (m ∷ ms) p c counted = ((tells_one s m p.0.0 c.0 counted.0, p.0.1), tells_each instant subs ms p.1 c.1 counted.1)
