-- What the engine stands for behind a change of sources.
use Rattle.std.proofs.Common.{◌≡◌, ℕ, ◌+◌, ◌≤◌, Bool, true, false, ◌&&◌, ◌==◌, List, [], ◌∷◌, ◌++◌, map, length, refl, sym, ◌∙◌, ap, subst, arith, inl, inr, zero-add}
use Rattle.std.specs.Prelude.{Option, Some, None, Result, Ok, Err, ◌⊎◌, if◌then◌else◌, IfNone, IfSome, nat_le, is_some}
use Rattle.std.specs.Option.{option_and_then}
use Rattle.std.proofs.Math.Seq.{take-length}
use Rattle.std.proofs.lemmas.Bool.Decides.{nat_tests}
use Rattle.std.specs.List.{flat_map, AllByRecursion}
use Rattle.ncq_callback.specs.Labels.{Handed}
use Rattle.ncq_distinct.specs.DistinctTables.{DistinctTable}
use Rattle.ncq_event.specs.declared.firing.Firing.{Firing}
use Rattle.ncq_change.specs.Stores.{world_in}
use Rattle.ncq_script.specs.declared.command.Command.TheVariants.{Delta}
use Rattle.ncq_script.specs.declared.refusal.Refusal.{Refusal}
use Rattle.ncq_script.specs.declared.refusal.Refusal.TheVariants as refusal
use Rattle.ncq_source.specs.Changes.{Trial}
use Rattle.ncq_source.specs.Changes.Trial.{Good, NoKey, NotThere}
use Rattle.ncq_source.specs.Faults.{batch_fault, fault_in}
use Rattle.ncq_source.proofs.FaultLaws.{fault_in-batch}
use Rattle.ncq_source.specs.Sections.{Holdings, are_known, batch_trial, is_named}
use Rattle.ncq_source.specs.declared.change.Portion.{Portion}
use Rattle.ncq_source.specs.declared.change.Section.{Section}
use Rattle.ncq_source.specs.declared.change.ChangeError.{ChangeError}
use Rattle.ncq_source.specs.declared.change.ChangeError.TheVariants.{NoSource, BadKey, NoSuchKey, OutOfMemory as NoMemory}
use Rattle.ncq_source.specs.StoreStates.{ArePortionsOf, IsAlike, IsCommitted, StoreState, TellsBatch, holdings_of}
use Rattle.ncq_book.specs.declared.subscription.Subscription.{Subscription as Kept}
use Rattle.ncq_feed.specs.Feeds.{AreFed}
use Rattle.ncq_group.specs.Tables.{TableState}
use Rattle.ncq_shelf.specs.Contents.{AreUpTo, Fits}
use Rattle.ncq_engine.specs.DistinctCounts.{AreCounted}
use Rattle.ncq_engine.specs.Engines.{CanTell, Pairwise, NoticeText, is_told_change, last_in}
use Rattle.ncq_engine.specs.Firing.{are_named, fires, is_installed, is_told_of, sources_of}
use Rattle.ncq_engine.specs.History.{History, Subscription, changes, creates, creates as creates_of, last_change, live, now, sources, with_sections, world}
use Rattle.ncq_engine.specs.Languages.{language_of}
use Rattle.ncq_engine.specs.Notices.{firings, notice_at, firings_in_order}
use Rattle.ncq_engine.specs.Output.{holdings_in, notices, sections_refusal}
use Rattle.ncq_engine.specs.Stands.{AreContents, EngineState, Follows, Keeps, content_of}
use Rattle.ncq_engine.specs.declared.telling.Answered.{Answered}
use Rattle.ncq_engine.specs.declared.engine.ApplyError.{ApplyError}
use Rattle.ncq_engine.specs.declared.engine.ApplyError.TheVariants.{Refused}
use Rattle.ncq_engine.specs.Applies.{Applies, change_refusal, ok_text, refused_change}
use Rattle.ncq_engine.proofs.ContentLaws.{contents_fed}
use Rattle.ncq_engine.proofs.EngineLaws.{accepts, gives_up, refuses, rises_quietly}
use Rattle.std.proofs.Common.{append_assoc}
use Rattle.std.proofs.lemmas.List.{append-nil}
use Rattle.std.specs.Io.{StartsWith}
use Rattle.ncq_engine.proofs.HistoryLaws.{Installed, installed}
use Rattle.ncq_engine.proofs.Keeping.{keeps_noted}
use Rattle.ncq_engine.proofs.StartedLaws.{FiresFirst, all_fired, delta_notes}
use Rattle.ncq_engine.proofs.Moved.{last_after, moved, named_found, same_holdings}
use Rattle.ncq_engine.proofs.Places.{room_is_no_content}
use Rattle.ncq_engine.proofs.StoreLaws.{last_alike}
use Rattle.ncq_engine.proofs.ToldLaws.{live_rises, noticed, one_instant, fired_spans, order_stays, spans_are, tells_each, texts_of, told_list, told_of, told_spans}
use Rattle.ncq_engine.specs.declared.span.Span.{Span}
use Rattle.ncq_engine.specs.Spans.{spans}
use Rattle.ncq_engine.proofs.Worlds.{world_is}

and_swap : (a b c : Bool) → (a && b && c) ≡ (a && c && b)
and_swap true true true = refl
and_swap true true false = refl
and_swap true false true = refl
and_swap true false false = refl
and_swap false b c = refl

-- the instant at which a change fires a subscription
abbrev pub changed_instant : List Section → ℕ → Kept → Option ℕ
changed_instant changed clock m = if is_told_change changed clock m then Some clock else None

module _ (handed : Handed) (h : History) (changed : List Section) (clock : ℕ) (at_now : clock ≡ now h) where
  fires_one : (s : Subscription) (m : Kept) → Keeps handed h s m → s.install ≤ creates h → changed_instant changed clock m ≡ fires s h (Delta changed)
  fires_one s m k before =
      let here : is_installed s h ≡ true = grind (arith, nat_tests, before) in
      (λ i. if (k.timing i).every == 0 && nat_le (k.timing i).start (at_now i) && are_named changed (k.sources i) then Some (at_now i) else None)
      ∙ (λ i. if and_swap (s.statement.every == 0) (nat_le s.start (now h)) (are_named changed (sources_of s.statement)) i then Some (now h) else None)
      ∙ (λ i. if sym here i && is_told_of changed s h then Some (now h) else None)

  pub fires_each : (subs : List Subscription) (ms : List Kept) → Pairwise (Keeps handed h) subs ms → Installed h subs
      → Pairwise (λ s m. Keeps handed h s m × (changed_instant changed clock m ≡ fires s h (Delta changed))) subs ms
  fires_each [] [] p i = tt
  fires_each [] (m ∷ ms) p i = absurd p
  fires_each (s ∷ subs) [] p i = absurd p
  fires_each (s ∷ subs) (m ∷ ms) p i = ((p.0, fires_one s m p.0 i.0), fires_each subs ms p.1 i.1)

-- the instant says whether
pub some_if : (b : Bool) (n : ℕ) → is_some (if b then Some n else None) ≡ b
some_if true n = refl
some_if false n = refl

-- a change writes nothing down
keep_noted : (handed : Handed) (h : History) (changed : List Section) (subs : List Subscription) (ms : List Kept) → Installed (Delta changed ∷ h) subs → Pairwise (Keeps handed h) subs ms → AllByRecursion (FiresFirst h) subs
    → Pairwise (Keeps handed (Delta changed ∷ h)) subs ms
keep_noted handed h changed [] [] i p f = tt
keep_noted handed h changed [] (m ∷ ms) i p f = absurd p
keep_noted handed h changed (s ∷ subs) [] i p f = absurd p
keep_noted handed h changed (s ∷ subs) (m ∷ ms) i p f = (keeps_noted handed h (Delta changed) s m i.0 p.0 (delta_notes s h changed f.0), keep_noted handed h changed subs ms i.1 p.1 f.1)

fires_now : (h : History) (changed : List Section) (s : Subscription) (d : ℕ) → fires s h (Delta changed) ≡ Some d → d ≡ now h
fires_now h changed s d e = by (is_installed s h && is_told_of changed s h) e
  where
    by : (b : Bool) → (if b then Some (now h) else None) ≡ Some d → d ≡ now h
    by true q = cc
    by false q = absurd cc

-- all are told in the order of their install numbers
pub told_in_order : (h : History) (changed : List Section) → firings_in_order h (Delta changed) ≡ firings h (Delta changed)
told_in_order h changed = order_stays (λ (f : Firing × Subscription). f.0) (firings h (Delta changed)) (one_instant (now h) (λ s. fires s h (Delta changed)) (fires_now h changed) (live h) (live_rises h))

-- sections of declared sources are refused for what their trial says
trial_decides : (changed : List Section) (holdings : Holdings) → are_known holdings changed ≡ true → sections_refusal changed holdings ≡ option_and_then change_refusal (fault_in (batch_trial 1 holdings changed))
trial_decides changed holdings known =
    (λ i. option_and_then change_refusal (if known i then batch_fault 1 holdings changed else Some NoSource))
    ∙ ap (option_and_then change_refusal) (sym (fault_in-batch 1 holdings changed))

-- and not where it is good
pub good_allowed : (changed : List Section) (holdings : Holdings) → are_known holdings changed ≡ true → batch_trial 1 holdings changed ≡ Good tt → sections_refusal changed holdings ≡ None
good_allowed changed holdings known good = trial_decides changed holdings known ∙ ap (λ t. option_and_then change_refusal (fault_in t)) good

module _ (engine : EngineState) (ready after_store : StoreState) (fed : TableState) (changed : List Section) (change : List Portion) (alike : IsAlike engine.store ready)
    (known : are_known (holdings_of engine.store) changed ≡ true) (tried : batch_trial 1 (holdings_of engine.store) changed ≡ Good tt)
    (made : ArePortionsOf ready changed change) (committed : IsCommitted ready change after_store) where
  -- each source has changed now, or is as it was
  pub last_either : (asked : List ℕ) → (last_in after_store asked ≡ after_store.changes) ⊎ (last_in after_store asked ≡ last_in ready asked)
  last_either asked = by (is_named asked changed) (last_after ready changed change made after_store committed (named_found engine.store ready alike changed known) asked)
    where
      by : (b : Bool) → last_in after_store asked ≡ (if b then after_store.changes else last_in ready asked) → (last_in after_store asked ≡ after_store.changes) ⊎ (last_in after_store asked ≡ last_in ready asked)
      by true e = inl e
      by false e = inr e

  module _ (h : History) (s : Follows engine h) where
    pub delta_allowed : sections_refusal changed (holdings_in (sources h)) ≡ None
    delta_allowed = ap (sections_refusal changed) (same_holdings engine.store (sources h) s.sources) ∙ good_allowed changed (holdings_of engine.store) known tried

    sources_are : map content_of after_store.sources ≡ sources (Delta changed ∷ h)
    sources_are = moved ready changed change made after_store committed ∙ ap (with_sections changed) (room_is_no_content engine.store.sources ready.sources alike.sources ∙ s.sources)

    changes_are : after_store.changes ≡ changes (Delta changed ∷ h)
    changes_are = let a = committed.changes in let b = alike.changes in let c = s.changes in omega (arith, a, b, c)

    last_is : (asked : List ℕ) → last_in after_store asked ≡ last_change asked (Delta changed ∷ h)
    last_is asked =
        last_after ready changed change made after_store committed (named_found engine.store ready alike changed known) asked
        ∙ (λ i. if is_named asked changed then changes_are i else (last_alike engine.store ready asked alike.sources ∙ s.last asked) i)

    same_world : world (sources (Delta changed ∷ h)) ≡ world_in after_store
    same_world = world_is after_store (sources (Delta changed ∷ h)) sources_are

    firing : Pairwise (λ s m. Keeps engine.handed h s m × (changed_instant changed engine.clock m ≡ fires s h (Delta changed))) (live h) engine.subscriptions
    firing = fires_each engine.handed h changed engine.clock s.clock (live h) engine.subscriptions s.subscriptions (installed h)

    -- the last changes as the store with room tells them
    last_ready : (asked : List ℕ) → last_in ready asked ≡ last_change asked h
    last_ready asked = last_alike engine.store ready asked alike.sources ∙ s.last asked

    contents_are : AreFed ready change engine.table.files fed.files → Fits (engine.store.changes + 1) (world_in after_store) fed.files → AreContents fed.files (Delta changed ∷ h)
    contents_are done fits =
        contents_fed ready change engine.table.files fed.files h (Delta changed) done (alike.changes ∙ s.changes) (let e : changes (Delta changed ∷ h) ≡ changes h + 1 = omega arith in e)
        (subst (λ n. Fits n (world (sources (Delta changed ∷ h))) fed.files) (ap (λ n. n + 1) s.changes) (subst (λ w. Fits (engine.store.changes + 1) w fed.files) (sym same_world) fits))
        s.contents

    -- the engine with its files and counts after the change
    pub delta_follows : AreContents fed.files (Delta changed ∷ h) → (distinct' : DistinctTable) → AreCounted engine.handed.relations (Delta changed ∷ h) distinct'
        → Follows (record engine { store = after_store; count = engine.count + 1; table = fed; distinct = distinct' }) (Delta changed ∷ h)
    delta_follows contents distinct' counted = record {
      sources = sources_are;
      last = last_is;
      changes = changes_are;
      clock = s.clock;
      creates = s.creates ∙ sym (zero-add (creates_of h));
      subscriptions = keep_noted engine.handed h changed (live h) engine.subscriptions (installed (Delta changed ∷ h)) s.subscriptions (all_fired h);
      contents = contents;
      counted = counted;
      rising = rises_quietly h (Delta changed) refl s.rising;
    }

    list_is : AreContents fed.files (Delta changed ∷ h) → AreUpTo (changes (Delta changed ∷ h)) fed.files → AllByRecursion (CanTell engine.handed ready fed) engine.subscriptions
        → told_of engine.handed ready fed.files engine.distinct (changed_instant changed engine.clock) engine.subscriptions ≡ map (noticed engine.handed h (Delta changed)) (firings h (Delta changed))
    list_is contents upto can = told_list engine.handed h (Delta changed) ready fed.files engine.distinct (changed_instant changed engine.clock) (live h) engine.subscriptions
        (tells_each engine.handed h (Delta changed) ready fed engine.distinct last_ready s.rising contents upto (changed_instant changed engine.clock) (live h) engine.subscriptions firing can s.counted)

    -- what is told, and where it stands
    pub delta_texts : AreContents fed.files (Delta changed ∷ h) → AreUpTo (changes (Delta changed ∷ h)) fed.files → AllByRecursion (CanTell engine.handed ready fed) engine.subscriptions
        → flat_map (λ (t : NoticeText). t.text) (told_of engine.handed ready fed.files engine.distinct (changed_instant changed engine.clock) engine.subscriptions) ≡ notices (language_of engine.handed) h (Delta changed)
    delta_texts contents upto can =
        ap (flat_map (λ (t : NoticeText). t.text)) (list_is contents upto can)
        ∙ texts_of engine.handed h (Delta changed) (firings h (Delta changed))
        ∙ ap (flat_map (notice_at (language_of engine.handed) h (Delta changed))) (sym (told_in_order h changed))

    pub delta_spans : AreContents fed.files (Delta changed ∷ h) → AreUpTo (changes (Delta changed ∷ h)) fed.files → AllByRecursion (CanTell engine.handed ready fed) engine.subscriptions
        → (from : ℕ) → told_spans from (told_of engine.handed ready fed.files engine.distinct (changed_instant changed engine.clock) engine.subscriptions) ≡ spans (language_of engine.handed) h (Delta changed) from
    delta_spans contents upto can from =
        ap (told_spans from) (list_is contents upto can)
        ∙ spans_are engine.handed h (Delta changed) from (firings h (Delta changed))
        ∙ ap (fired_spans engine.handed h (Delta changed) from) (sym (told_in_order h changed))

  -- the texts, and where they stand, are those of the subscriptions that the change concerns
  abbrev pub AreOfConcerned : List ℕ → ℕ → List Span → Type 0
  AreOfConcerned texts from places = (h : History) → Follows engine h → AreContents fed.files (Delta changed ∷ h) → AreUpTo (changes (Delta changed ∷ h)) fed.files
      → (texts ≡ flat_map (λ (t : NoticeText). t.text) (told_of engine.handed ready fed.files engine.distinct (changed_instant changed engine.clock) engine.subscriptions))
      × (places ≡ told_spans from (told_of engine.handed ready fed.files engine.distinct (changed_instant changed engine.clock) engine.subscriptions))

  -- the counts behind the change are right
  abbrev pub AreCountedBehind : DistinctTable → Type 0
  AreCountedBehind distinct' = (h : History) → Follows engine h → AreContents fed.files (Delta changed ∷ h) → AreUpTo (changes (Delta changed ∷ h)) fed.files → AreCounted engine.handed.relations (Delta changed ∷ h) distinct'

  -- an accepted change, from what the calls give
  pub change_accepted : AreFed ready change engine.table.files fed.files → Fits (engine.store.changes + 1) (world_in after_store) fed.files → AreUpTo (engine.store.changes + 1) fed.files → AllByRecursion (CanTell engine.handed ready fed) engine.subscriptions
      → (distinct' : DistinctTable) → AreCountedBehind distinct'
      → (texts : List ℕ) (places : List Span) (out out1 out' : List ℕ) → AreOfConcerned texts (length out1) places → (applied first : Answered)
      → out1 ≡ out ++ ok_text (engine.count + 1) → out' ≡ out1 ++ texts
      → first ≡ record { from = length out1; to = length out1; spans = [] } → applied ≡ record { from = first.from; to = length out'; spans = places }
      → Applies engine (Delta changed) out (Ok applied) (record engine { store = after_store; count = engine.count + 1; table = fed; distinct = distinct' }) out'
  change_accepted done fits upto can distinct' counted texts places out out1 out' concerned applied first line text first_is applied_is =
      accepts engine (Delta changed) out applied (record engine { store = after_store; count = engine.count + 1; table = fed; distinct = distinct' }) out' texts []
      (record {
        accepted = λ h s. delta_allowed h s;
        follows = λ h s. delta_follows h s (contents_are h s done fits) distinct' (counted h s (contents_are h s done fits) (upto_now h s));
        tells = λ h s. (concerned h s (contents_are h s done fits) (upto_now h s)).0 ∙ delta_texts h s (contents_are h s done fits) (upto_now h s) can;
        stand = λ h s. ap (λ (a : Answered). a.spans) applied_is ∙ (concerned h s (contents_are h s done fits) (upto_now h s)).1 ∙ delta_spans h s (contents_are h s done fits) (upto_now h s) can (length out1)
            ∙ ap (spans (language_of engine.handed) h (Delta changed)) (sym begins);
        ends = λ h s. refl;
        counted = refl;
        named = refl;
      })
      (whole ∙ sym (append-nil ((out ++ ok_text (engine.count + 1)) ++ texts)) ∙ append_assoc (out ++ ok_text (engine.count + 1)) texts [])
      (begins ∙ ap length line)
      (ap (λ (a : Answered). a.to) applied_is ∙ ap length whole)
    where
      begins : applied.from ≡ length out1
      begins = ap (λ (a : Answered). a.from) applied_is ∙ ap (λ (a : Answered). a.from) first_is

      upto_now : (h : History) → Follows engine h → AreUpTo (changes (Delta changed ∷ h)) fed.files
      upto_now h s = subst (λ n. AreUpTo n fed.files) (let e = s.changes in (let q : engine.store.changes + 1 ≡ changes (Delta changed ∷ h) = omega (arith, e) in q)) upto

      whole : out' ≡ (out ++ ok_text (engine.count + 1)) ++ texts
      whole = text ∙ (λ i. line i ++ texts)

-- a change that is refused
module _ (engine : EngineState) (changed : List Section) (result : Result (List Portion) ChangeError)
    (tells : TellsBatch result (are_known (holdings_of engine.store) changed) (batch_trial 1 (holdings_of engine.store) changed))
    (out : List ℕ) (answer : Result Answered ApplyError) (new : EngineState) (out' : List ℕ) (untouched : out' ≡ out) where
  refused_for : (why : Refusal) → answer ≡ Err (Refused why) → new ≡ record engine { count = engine.count + 1 }
      → sections_refusal changed (holdings_of engine.store) ≡ Some why → Applies engine (Delta changed) out answer new out'
  refused_for why is same because = refuses engine (Delta changed) why out answer new out' is same untouched
      (λ h s. ap (sections_refusal changed) (same_holdings engine.store (sources h) s.sources) ∙ because)

  tells_error : (error : ChangeError) → result ≡ Err error → TellsBatch {A = List Portion} (Err error) (are_known (holdings_of engine.store) changed) (batch_trial 1 (holdings_of engine.store) changed)
  tells_error error is = subst (λ (r : Result (List Portion) ChangeError). TellsBatch r (are_known (holdings_of engine.store) changed) (batch_trial 1 (holdings_of engine.store) changed)) is tells

  item_fails : (trial : Trial (Unit {0})) → (are_known (holdings_of engine.store) changed ≡ true) × (batch_trial 1 (holdings_of engine.store) changed ≡ trial)
      → sections_refusal changed (holdings_of engine.store) ≡ option_and_then change_refusal (fault_in trial)
  item_fails trial told = trial_decides changed (holdings_of engine.store) told.0 ∙ ap (λ t. option_and_then change_refusal (fault_in t)) told.1

  pub change_refused : (error : ChangeError) → result ≡ Err error → answer ≡ Err (refused_change error)
      → IfSome (change_refusal error) (λ _. new ≡ record engine { count = engine.count + 1 }) → IfNone (change_refusal error) (new ≡ engine) → Applies engine (Delta changed) out answer new out'
  change_refused NoSource is a e g =
      let unknown = tells_error NoSource is in
      refused_for refusal.NoSource a e (λ i. option_and_then change_refusal (if unknown i then batch_fault 1 (holdings_of engine.store) changed else Some NoSource))
  change_refused (BadKey position) is a e g = refused_for (refusal.Key position) a e (item_fails (NoKey position) (tells_error (BadKey position) is))
  change_refused (NoSuchKey position) is a e g = refused_for (refusal.NoKey position) a e (item_fails (NotThere position) (tells_error (NoSuchKey position) is))
  change_refused NoMemory is a e same = gives_up engine (Delta changed) out answer new out' a same (subst (λ (o : List ℕ). StartsWith o out) (sym untouched) (take-length out))

-- what is told of a change that was prepared
pub told_known : (store : StoreState) (changed : List Section) (result : Result (List Portion) ChangeError) (change : List Portion) → result ≡ Ok change
    → TellsBatch result (are_known (holdings_of store) changed) (batch_trial 1 (holdings_of store) changed)
    → (are_known (holdings_of store) changed ≡ true) × (batch_trial 1 (holdings_of store) changed ≡ Good tt)
told_known store changed result change is tells =
    subst (λ (r : Result (List Portion) ChangeError). TellsBatch r (are_known (holdings_of store) changed) (batch_trial 1 (holdings_of store) changed)) is tells
