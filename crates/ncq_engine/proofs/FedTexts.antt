-- Who is asked at a change: those whose file got rows are told what those are that ask its source.
use Rattle.std.proofs.Common.{◌≡◌, ℕ, ◌+◌, Bool, true, false, ◌&&◌, ◌==◌, cond, List, [], ◌∷◌, ◌++◌, map, length, refl, sym, ◌∙◌, ap, inl, inr, arith}
use Rattle.std.specs.Prelude.{Some, None, ◌⊎◌, nat_eq, nat_le, if◌then◌else◌}
use Rattle.std.specs.List.{filter, flat_map, list_any, AllByRecursion}
use Rattle.ncq_book.specs.declared.subscription.Subscription.{Subscription as Kept}
use Rattle.ncq_book.specs.Books.{InstallsRise, subscription_of, watchers_of, watches}
use Rattle.ncq_bag.specs.Counts.{turns}
use Rattle.ncq_callback.specs.Labels.{Handed}
use Rattle.ncq_distinct.specs.DistinctTables.{counts_at, DistinctTable}
use Rattle.ncq_event.specs.declared.firing.Firing.{Firing}
use Rattle.ncq_feed.specs.Feeds.{NamesTheFed}
use Rattle.ncq_group.specs.Tables.{TableState}
use Rattle.ncq_script.specs.declared.command.Command.TheVariants.{Delta}
use Rattle.ncq_shelf.specs.Contents.{AreUpTo}
use Rattle.ncq_shelf.specs.KeptFiles.{Files}
use Rattle.ncq_source.specs.declared.change.Section.{Section}
use Rattle.ncq_source.specs.StoreStates.{StoreState}
use Rattle.ncq_engine.specs.Engines.{CanTell, Pairwise, NoticeText, entries_text, is_told_change, last_in, news_in, notice_text, notice_texts}
use Rattle.ncq_engine.specs.Firing.{are_named}
use Rattle.ncq_engine.specs.History.{History, Subscription, changes, last_change, live, now}
use Rattle.ncq_engine.specs.Marks.{IsRising}
use Rattle.ncq_engine.specs.Stands.{AreContents, Keeps}
use Rattle.ncq_engine.specs.declared.span.Span.{Span}
use Rattle.ncq_engine.specs.Spans.{span_of, spans_of}
use Rattle.ncq_engine.specs.Tellings.{firing_name, firing_text, has_started, name_of, started_at, text_of}
use Rattle.ncq_engine.proofs.ByInstall.{AreFound, found_each}
use Rattle.ncq_engine.proofs.ChangeLaws.{changed_instant}
use Rattle.ncq_engine.proofs.QuietLaws.{quiet_elsewhere, quiet_unfed}
use Rattle.ncq_engine.proofs.StartedLaws.{FiresFirst, all_fired}
use Rattle.ncq_engine.proofs.FiringLaws.{firing_spans}
use Rattle.ncq_plan.specs.Relations.{Relations}
use Rattle.ncq_engine.proofs.ToldLaws.{told_of, told_spans}

-- what texts come to, from the last on
module _ {A : Type 0} (weigh : List ℕ → List ℕ → A → A) (none : A) where
  abbrev total : {X : Type 0} → (X → List ℕ) → (X → List ℕ) → List X → A
  total name text [] = none
  total name text (x ∷ xs) = weigh (name x) (text x) (total name text xs)

-- a text in front of the rest, and its span in front of those of the rest
abbrev text_first : List ℕ → List ℕ → List ℕ → List ℕ
text_first name bytes rest = bytes ++ rest

abbrev span_first : List ℕ → List ℕ → (ℕ → List Span) → ℕ → List Span
span_first name bytes rest from = span_of name from bytes ++ rest (from + length bytes)

module _ {X : Type 0} (name text : X → List ℕ) where
  flat_total : (xs : List X) → flat_map text xs ≡ total text_first [] name text xs
  flat_total [] = refl
  flat_total (x ∷ xs) = ap (λ rest. text x ++ rest) (flat_total xs)

  spans_total : (from : ℕ) (xs : List X) → spans_of name text from xs ≡ total span_first (λ _. []) name text xs from
  spans_total from [] = refl
  spans_total from (x ∷ xs) = ap (λ rest. span_of (name x) from (text x) ++ rest) (spans_total (from + length (text x)) xs)

-- the subscription is asked exactly where it is told, or its rows tell nothing
abbrev pub AsksEnough : Relations → StoreState → Files → List ℕ → List Section → ℕ → Kept → Type 0
AsksEnough relations store files fed changed clock m =
    ((watches fed m && nat_le m.timing.start clock) ≡ is_told_change changed clock m) ⊎ (news_in relations store files m ≡ [])

-- where they tell nothing, nothing is told
quiet_text : (handed : Handed) (store : StoreState) (files : Files) (distinct : DistinctTable) (m : Kept) (instant : ℕ) → news_in handed.relations store files m ≡ [] → notice_text handed store files distinct m instant ≡ []
quiet_text handed store files distinct m instant nothing =
    ap (entries_text handed m instant)
    ((λ i. if m.distinct then turns (counts_at distinct m.install) (nothing i) else nothing i)
    ∙ elim m.distinct as (λ t. (if t then turns (counts_at distinct m.install) [] else []) ≡ []) [ true ↦ refl | false ↦ refl ])

module _ (handed : Handed) (store : StoreState) (files : Files) (distinct : DistinctTable) (fed : List ℕ) (changed : List Section) (clock : ℕ) where
  module _ (all : List Kept) where
    -- the firings of those of these subscriptions that are asked
    abbrev asked : List Kept → List Firing
    asked ms = flat_map (started_at clock all) (watchers_of fed ms)

    -- and the notices of those that are told
    abbrev told : List Kept → List NoticeText
    told ms = told_of handed store files distinct (changed_instant changed clock) ms

    module _ {A : Type 0} (weigh : List ℕ → List ℕ → A → A) (silent : (name : List ℕ) (rest : A) → weigh name [] rest ≡ rest) (none : A) where
      abbrev of_firings : List Firing → A
      of_firings firings = total weigh none (firing_name all) (firing_text handed store files distinct all) firings

      abbrev of_told : List NoticeText → A
      of_told list = total weigh none (λ (t : NoticeText). t.name) (λ (t : NoticeText). t.text) list

      -- what one more subscription adds, where the test says so
      abbrev one_more : Bool → Kept → A → A
      one_more test m rest = if test then weigh m.name (notice_text handed store files distinct m clock) rest else rest

      started_one : (m : Kept) → subscription_of m.install all ≡ Some m → (rest : List Firing)
          → of_firings (started_at clock all m.install ++ rest) ≡ one_more (nat_le m.timing.start clock) m (of_firings rest)
      started_one m e rest =
          let firing : Firing = record { instant = clock; install = m.install } in
          (λ i. of_firings ((if has_started clock (e i) then firing ∷ [] else []) ++ rest))
          ∙ elim (nat_le m.timing.start clock) as (λ t. of_firings ((if t then firing ∷ [] else []) ++ rest) ≡ one_more t m (of_firings rest)) [
            | true ↦ λ i. weigh (name_of (e i)) (text_of handed store files distinct clock (e i)) (of_firings rest)
            | false ↦ refl
          ]

      asked_more : (m : Kept) (ms : List Kept) → subscription_of m.install all ≡ Some m
          → of_firings (asked (m ∷ ms)) ≡ one_more (watches fed m && nat_le m.timing.start clock) m (of_firings (asked ms))
      asked_more m ms e =
          elim (watches fed m) as (λ t. of_firings (flat_map (started_at clock all) (map (λ m. m.install) (cond t (m ∷ filter (watches fed) ms) (filter (watches fed) ms))))
          ≡ one_more (t && nat_le m.timing.start clock) m (of_firings (asked ms))) [
            | true ↦ started_one m e (asked ms)
            | false ↦ refl
          ]

      told_more : (m : Kept) (ms : List Kept) → of_told (told (m ∷ ms)) ≡ one_more (is_told_change changed clock m) m (of_told (told ms))
      told_more m ms =
          elim (is_told_change changed clock m) as (λ t. of_told (notice_texts handed store files distinct m (if t then Some clock else None) ++ told ms) ≡ one_more t m (of_told (told ms))) [ true ↦ refl | false ↦ refl ]

      -- one that is told nothing adds nothing
      adds_nothing : (test : Bool) (m : Kept) (rest : A) → notice_text handed store files distinct m clock ≡ [] → one_more test m rest ≡ rest
      adds_nothing true m rest quiet = ap (λ bytes. weigh m.name bytes rest) quiet ∙ silent m.name rest
      adds_nothing false m rest quiet = refl

      adds_alike : (m : Kept) (rest : A) → AsksEnough handed.relations store files fed changed clock m → one_more (watches fed m && nat_le m.timing.start clock) m rest ≡ one_more (is_told_change changed clock m) m rest
      adds_alike m rest (inl same) = λ i. one_more (same i) m rest
      adds_alike m rest (inr nothing) =
          let quiet = quiet_text handed store files distinct m clock nothing in
          adds_nothing (watches fed m && nat_le m.timing.start clock) m rest quiet ∙ sym (adds_nothing (is_told_change changed clock m) m rest quiet)

      same_total : (ms : List Kept) → AreFound all ms → AllByRecursion (AsksEnough handed.relations store files fed changed clock) ms → of_firings (asked ms) ≡ of_told (told ms)
      same_total [] found enough = refl
      same_total (m ∷ ms) found enough =
          asked_more m ms found.0
          ∙ ap (one_more (watches fed m && nat_le m.timing.start clock) m) (same_total ms found.1 enough.1)
          ∙ adds_alike m (of_told (told ms)) enough.0
          ∙ sym (told_more m ms)

  -- what is written where those are asked whose file got rows
  module _ (all : List Kept) (rise : InstallsRise all) (enough : AllByRecursion (AsksEnough handed.relations store files fed changed clock) all) where
    pub fed_text : flat_map (firing_text handed store files distinct all) (flat_map (started_at clock all) (watchers_of fed all))
        ≡ flat_map (λ (t : NoticeText). t.text) (told_of handed store files distinct (changed_instant changed clock) all)
    fed_text =
        flat_total (firing_name all) (firing_text handed store files distinct all) (asked all all)
        ∙ same_total all text_first (λ name rest. refl) [] all (found_each all rise) enough
        ∙ sym (flat_total (λ (t : NoticeText). t.name) (λ (t : NoticeText). t.text) (told all all))

    -- and where it stands
    pub fed_spans : (from : ℕ) → firing_spans handed store files distinct all from (flat_map (started_at clock all) (watchers_of fed all))
        ≡ told_spans from (told_of handed store files distinct (changed_instant changed clock) all)
    fed_spans from =
        spans_total (firing_name all) (firing_text handed store files distinct all) from (asked all all)
        ∙ ap (λ (made : ℕ → List Span). made from) (same_total all span_first silent (λ _. []) all (found_each all rise) enough)
        ∙ sym (spans_total (λ (t : NoticeText). t.name) (λ (t : NoticeText). t.text) from (told all all))
      where
        silent : (name : List ℕ) (rest : ℕ → List Span) → span_first name [] rest ≡ rest
        silent name rest = λ i from. rest (let e : from + 0 ≡ from = omega arith in e i)

-- behind a change of an engine that follows the history each subscription is asked enough
module _ (handed : Handed) (h : History) (changed : List Section) (clock : ℕ) (at_now : clock ≡ now h) (store : StoreState) (table : TableState)
    (last : (asked : List ℕ) → last_in store asked ≡ last_change asked h) (rising : IsRising h) (contents : AreContents table.files (Delta changed ∷ h))
    (upto : AreUpTo (changes (Delta changed ∷ h)) table.files) (fed : List ℕ) (named : NamesTheFed (changes h) table.files fed) where
  asks_one : (s : Subscription) (m : Kept) → Keeps handed h s m → CanTell handed store table m → FiresFirst h s → AsksEnough handed.relations store table.files fed changed clock m
  asks_one s m k can fired = by (m.timing.every == 0) (list_any (nat_eq m.file.0) fed) (nat_le m.timing.start clock) (are_named changed m.sources) refl refl refl refl
    where
      alike : (b f t a : Bool) → m.timing.every == 0 ≡ b → list_any (nat_eq m.file.0) fed ≡ f → nat_le m.timing.start clock ≡ t → are_named changed m.sources ≡ a
          → ((b && f) && t) ≡ (b && t && a) → AsksEnough handed.relations store table.files fed changed clock m
      alike b f t a based in_fed started asks same = inl ((λ i. (based i && in_fed i) && started i) ∙ same ∙ sym (λ i. based i && started i && asks i))

      by : (b f t a : Bool) → m.timing.every == 0 ≡ b → list_any (nat_eq m.file.0) fed ≡ f → nat_le m.timing.start clock ≡ t → are_named changed m.sources ≡ a
          → AsksEnough handed.relations store table.files fed changed clock m
      by true true true false based in_fed started asks =
          inr (quiet_elsewhere handed h changed store table last rising contents upto s m k can fired based (ap (nat_le m.timing.start) (sym at_now) ∙ started) asks)
      by true false true true based in_fed started asks =
          inr (quiet_unfed handed h changed store table last rising contents upto s m k can fired based (ap (nat_le m.timing.start) (sym at_now) ∙ started) (named m.file.0 can.file can.at in_fed))
      by false f t a based in_fed started asks = alike false f t a based in_fed started asks refl
      by true true true true based in_fed started asks = alike true true true true based in_fed started asks refl
      by true true false a based in_fed started asks = alike true true false a based in_fed started asks refl
      by true false true false based in_fed started asks = alike true false true false based in_fed started asks refl
      by true false false a based in_fed started asks = alike true false false a based in_fed started asks refl

  asks_each : (subs : List Subscription) (ms : List Kept) → Pairwise (Keeps handed h) subs ms → AllByRecursion (CanTell handed store table) ms → AllByRecursion (FiresFirst h) subs
      → AllByRecursion (AsksEnough handed.relations store table.files fed changed clock) ms
  asks_each [] [] p can fired = tt
  asks_each [] (m ∷ ms) p can fired = absurd p
  asks_each (s ∷ subs) [] p can fired = absurd p
  asks_each (s ∷ subs) (m ∷ ms) p can fired = (asks_one s m p.0 can.0 fired.0, asks_each subs ms p.1 can.1 fired.1)

  pub asks_enough : (subscriptions : List Kept) → Pairwise (Keeps handed h) (live h) subscriptions → AllByRecursion (CanTell handed store table) subscriptions
      → AllByRecursion (AsksEnough handed.relations store table.files fed changed clock) subscriptions
  asks_enough subscriptions p can = asks_each (live h) subscriptions p can (all_fired h)
