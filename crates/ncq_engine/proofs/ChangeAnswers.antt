-- A change that is accepted, from what the calls give.
use Rattle.std.proofs.Common.{◌≡◌, ℕ, true, ◌&&◌, ◌+◌, ◌≤◌, List, ◌∷◌, ◌++◌, length, refl, sym, ◌∙◌, ap, subst, arith, inl, inr}
use Rattle.std.specs.Prelude.{Ok, nat_le, ◌⊎◌}
use Rattle.std.specs.List.{AllByRecursion}
use Rattle.ncq_book.specs.declared.subscription.Subscription.{Subscription as Kept}
use Rattle.ncq_book.specs.Books.{watchers_of, watches}
use Rattle.ncq_cache.specs.Cached.{Cached}
use Rattle.ncq_callback.specs.Labels.{Handed}
use Rattle.ncq_change.specs.Stores.{world_in}
use Rattle.ncq_distinct.specs.DistinctTables.{DistinctTable}
use Rattle.ncq_event.specs.declared.firing.Firing.{Firing}
use Rattle.ncq_feed.specs.Feeds.{AreFed, IsPreparedFrom, NamesTheFed, world_after}
use Rattle.ncq_group.specs.Tables.{TableState, Facts}
use Rattle.ncq_live.specs.LiveTables.{LiveState}
use Rattle.ncq_script.specs.declared.command.Command.TheVariants.{Delta}
use Rattle.ncq_plan.specs.Relations.{Relations}
use Rattle.ncq_shelf.specs.Contents.{AreUpTo, Fits}
use Rattle.ncq_shelf.specs.KeptFiles.{Files}
use Rattle.ncq_source.specs.Changes.Trial.{Good}
use Rattle.ncq_source.specs.Sections.{are_known, batch_trial}
use Rattle.ncq_source.specs.declared.change.Portion.{Portion}
use Rattle.ncq_source.specs.declared.change.Section.{Section}
use Rattle.ncq_source.specs.StoreStates.{ArePortionsOf, IsAlike, IsCommitted, StoreState, holdings_of}
use Rattle.ncq_engine.specs.declared.telling.Answered.{Answered}
use Rattle.ncq_engine.specs.Applies.{Applies, ok_text}
use Rattle.ncq_engine.specs.Cached.{AllServe, Grows, KeepsPairs}
use Rattle.ncq_engine.specs.DistinctCounts.{AreCounted}
use Rattle.ncq_engine.specs.Engines.{CanTell, IsEngine, is_told_change, last_in}
use Rattle.ncq_engine.specs.Stands.{AreContents, EngineState, Follows}
use Rattle.ncq_engine.specs.Tellings.{IsAnswered, firings_text, is_fired, started_of}
use Rattle.ncq_engine.proofs.ByInstall.{found_each}
use Rattle.ncq_engine.proofs.ChangeLaws.{change_accepted, changed_instant, fires_each, last_either, some_if}
use Rattle.ncq_engine.proofs.CountedLaws.{HasSettled, IsAskedAs, change_fires, counts_follow}
use Rattle.ncq_engine.proofs.CachedAnswers.{keeps_fed}
use Rattle.ncq_engine.proofs.CachedLaws.{grown_serve, serve_fed}
use Rattle.ncq_engine.proofs.EngineLaws.{applies_cached}
use Rattle.ncq_engine.proofs.HistoryLaws.{installed}
use Rattle.ncq_engine.proofs.InvariantLaws.{Invariant, can_fed, invariant_alike, invariant_cached, invariant_changed, invariant_counted, invariant_counts}
use Rattle.ncq_engine.proofs.KeptCounts.{counts_settled}
use Rattle.ncq_engine.proofs.Lists.{each_both}
use Rattle.ncq_engine.proofs.Moved.{portions_alike, prepared_from, world_committed}
use Rattle.ncq_engine.proofs.FedTexts.{AsksEnough, asks_enough, fed_spans, fed_text}
use Rattle.ncq_engine.proofs.StoreLaws.{last_alike}
use Rattle.ncq_engine.specs.History.{History, changes, last_change, live}

-- the engine with room for the change, and the command counted
abbrev pub mid_engine : EngineState → StoreState → EngineState
mid_engine e ready = record e { store = ready; count = e.count + 1 }

-- the engine behind the change: the store after the commit, what was fed, what is kept of what was told, and the counts
abbrev pub changed_engine : EngineState → StoreState → LiveState → List Cached → DistinctTable → EngineState
changed_engine e after live_table cache distinct =
    record e { store = after; clock = live_table.instant; count = e.count + 1; subscriptions = live_table.subscriptions; table = live_table.table; cache = cache; distinct = distinct }

-- the firings at a change
abbrev pub fed_firings : LiveState → List ℕ → List Firing
fed_firings live_table list = started_of live_table (watchers_of list live_table.subscriptions)

-- who is asked enough is asked as it fires, or its rows tell nothing
asked_as : (relations : Relations) (store : StoreState) (files : Files) (fed : List ℕ) (changed : List Section) (clock : ℕ) (firings : List Firing) (ms : List Kept) → AllByRecursion (AsksEnough relations store files fed changed clock) ms
    → AllByRecursion (λ m. is_fired firings m ≡ (watches fed m && nat_le m.timing.start clock)) ms → AllByRecursion (IsAskedAs relations store files firings (changed_instant changed clock)) ms
asked_as relations store files fed changed clock firings =
    each_both (AsksEnough relations store files fed changed clock) (λ m. is_fired firings m ≡ (watches fed m && nat_le m.timing.start clock)) (IsAskedAs relations store files firings (changed_instant changed clock))
    (λ m enough fires. elim enough [
      | inl same ↦ inl (fires ∙ same ∙ sym (some_if (is_told_change changed clock m) clock))
      | inr none ↦ inr none
    ])

-- the change was prepared for the engine, and its sources have room for it
pub record IsReserved (e : EngineState) (changed : List Section) (change : List Portion) (ready : StoreState) : Type 0 where
  pub holds : Invariant e
  pub alike : IsAlike e.store ready
  pub known : are_known (holdings_of e.store) changed ≡ true
  pub tried : batch_trial 1 (holdings_of e.store) changed ≡ Good tt
  pub prepares : ArePortionsOf e.store changed change

-- the files were fed, and those that were are named
pub record IsFed (e : EngineState) (change : List Portion) (ready : StoreState) (live_table : LiveState) (list : List ℕ) : Type 0 where
  pub fed : AreFed ready change e.table.files live_table.table.files
  pub fits : Fits live_table.table.number (world_after ready change) live_table.table.files
  pub number : live_table.table.number ≡ e.table.number + 1
  pub next_file : live_table.table.next_file ≡ e.table.next_file
  pub named : NamesTheFed ready.changes live_table.table.files list
  pub facts : Facts live_table.table
  pub subscriptions : live_table.subscriptions ≡ e.subscriptions
  pub instant : live_table.instant ≡ e.clock

module _ {e : EngineState} {ready : StoreState} {changed : List Section} {change : List Portion} (r : IsReserved e changed change ready) where
  pub made : ArePortionsOf ready changed change
  made = portions_alike e.store ready r.alike changed change r.prepares

  pub holds_ready : Invariant (record e { store = ready })
  holds_ready = invariant_alike e ready r.alike r.holds

  pub is_prepared : IsPreparedFrom ready change
  is_prepared = prepared_from ready changed change made

  holds_mid : Invariant (mid_engine e ready)
  holds_mid = invariant_counted (record e { store = ready }) holds_ready

  module _ {live_table : LiveState} {list : List ℕ} (f : IsFed e change ready live_table list) where
    abbrev table : TableState
    table = live_table.table

    -- the live table of the engine with the files as they are fed
    abbrev still : LiveState
    still = record { table = table; subscriptions = e.subscriptions; instant = e.clock }

    can : AllByRecursion (CanTell e.handed ready table) e.subscriptions
    can = can_fed (mid_engine e ready) change (world_after ready change) table holds_mid f.fed f.fits f.number

    -- the subscriptions can be told of the files as they are fed
    pub can_tell : (known : Handed) → e.handed ≡ known → AllByRecursion (CanTell known ready table) live_table.subscriptions
    can_tell known handled =
        subst (λ (ms : List Kept). AllByRecursion (CanTell known ready table) ms) (sym f.subscriptions)
        (subst (λ (l : Handed). AllByRecursion (CanTell l ready table) e.subscriptions) handled can)

    -- what is kept of what was told serves
    pub served : AllServe e.handed.relations table e.cache
    served = serve_fed e.handed.relations e.table table e.cache f.number f.next_file r.holds.serve

    pub changed_keeps : (cache : List Cached) → Grows e.handed.relations table e.cache cache → KeepsPairs e.handed.relations e.table e.cache table cache
    changed_keeps cache = keeps_fed e.handed.relations ready change e.table table e.cache cache f.fed r.holds.serve

    -- what waited for them was settled
    still_settled : (distinct : DistinctTable) → HasSettled e.handed.relations ready live_table (fed_firings live_table list) e.distinct distinct → HasSettled e.handed.relations ready still (fed_firings still list) e.distinct distinct
    still_settled distinct =
        subst (λ (l : LiveState). HasSettled e.handed.relations ready l (fed_firings l list) e.distinct distinct) (λ i. record { table = table; subscriptions = f.subscriptions i; instant = f.instant i })

    last_fed : (h : History) → Follows e h → (asked : List ℕ) → last_in ready asked ≡ last_change asked h
    last_fed h s asked = last_alike e.store ready asked r.alike.sources ∙ s.last asked

    enough : (h : History) → Follows e h → AreContents table.files (Delta changed ∷ h) → AreUpTo (changes (Delta changed ∷ h)) table.files → AllByRecursion (AsksEnough e.handed.relations ready table.files list changed e.clock) e.subscriptions
    enough h s contents upto =
        asks_enough e.handed h changed e.clock s.clock ready table (last_fed h s) s.rising contents upto list (subst (λ n. NamesTheFed n table.files list) (r.alike.changes ∙ s.changes) f.named) e.subscriptions s.subscriptions can

    -- and the counts follow
    counts_fed : (distinct : DistinctTable) → HasSettled e.handed.relations ready still (fed_firings still list) e.distinct distinct
        → (h : History) → Follows e h → AreContents table.files (Delta changed ∷ h) → AreUpTo (changes (Delta changed ∷ h)) table.files → AreCounted e.handed.relations (Delta changed ∷ h) distinct
    counts_fed distinct settles h s contents upto =
        counts_follow e.handed h (Delta changed) ready still (last_fed h s) s.rising contents upto (changed_instant changed e.clock) (fed_firings still list) e.distinct distinct settles (live h) e.subscriptions
        (fires_each e.handed h changed e.clock s.clock (live h) e.subscriptions s.subscriptions (installed h)) can (found_each e.subscriptions r.holds.rise)
        (asked_as e.handed.relations ready table.files list changed e.clock (fed_firings still list) e.subscriptions (enough h s contents upto) (change_fires e.clock e.subscriptions list r.holds.rise (found_each e.subscriptions r.holds.rise)))
        s.counted

    module _ (after : StoreState) (committed : IsCommitted ready change after) where
      either : (asked : List ℕ) → (last_in after asked ≡ after.changes) ⊎ (last_in after asked ≡ last_in ready asked)
      either = last_either e ready after table changed change r.alike r.known r.tried made committed

      fits_after : Fits table.number (world_in after) table.files
      fits_after = subst (λ w. Fits table.number w table.files) (world_committed ready changed change made after committed) f.fits

      number_is : table.number ≡ e.store.changes + 1
      number_is = f.number ∙ ap (λ n. n + 1) r.holds.number

      last_more : (asked : List ℕ) → last_in ready asked ≤ last_in after asked
      last_more asked =
          let low = holds_mid.lasts asked in let more = committed.changes in
          elim (either asked) [
            | inl now ↦ omega (arith, low, more, now)
            | inr same ↦ omega (arith, same)
          ]

      lasts_after : (asked : List ℕ) → last_in after asked ≤ after.changes
      lasts_after asked =
          let low = holds_mid.lasts asked in let more = committed.changes in
          elim (either asked) [
            | inl now ↦ omega (arith, now)
            | inr same ↦ omega (arith, low, more, same)
          ]

      changed_holds : Invariant (record e { store = after; count = e.count + 1; table = table })
      changed_holds =
          let few = r.holds.changes in let same = r.alike.changes in
          invariant_changed (mid_engine e ready) change after table holds_mid committed.changes (let l : ready.changes + 1 ≤ e.count + 1 = omega (arith, few, same) in l) last_more lasts_after f.fed fits_after f.facts.up_to f.number f.next_file

      -- what holds behind the commit
      pub holds_changed : (cache : List Cached) (distinct : DistinctTable) → Grows e.handed.relations table e.cache cache → HasSettled e.handed.relations ready live_table (fed_firings live_table list) e.distinct distinct → Invariant (changed_engine e after live_table cache distinct)
      holds_changed cache distinct grows settles =
          let s = still_settled distinct settles in
          subst (λ (ms : List Kept). IsEngine after (e.count + 1) e.creates e.handed ms table cache distinct) (sym f.subscriptions)
          (invariant_counts (record e { store = after; count = e.count + 1; table = table; cache = cache }) distinct
          (counts_settled e.handed.relations ready still (fed_firings still list) e.distinct s.waited distinct r.holds.counts s.waits s.same s.settled)
          (invariant_cached (record e { store = after; count = e.count + 1; table = table }) cache (grown_serve e.handed.relations table e.cache cache served grows) changed_holds))

      changed_applies : (distinct : DistinctTable) → HasSettled e.handed.relations ready still (fed_firings still list) e.distinct distinct → (out out' : List ℕ) (answered : Answered)
          → IsAnswered (e.count + 1) e.handed ready e.distinct still (fed_firings still list) out out' answered
          → Applies e (Delta changed) out (Ok answered) (record e { store = after; count = e.count + 1; table = table; distinct = distinct }) out'
      changed_applies distinct settles out out' answered told =
          change_accepted e ready after table changed change r.alike r.known r.tried made committed f.fed
          (subst (λ n. Fits n (world_in after) table.files) number_is fits_after) (subst (λ n. AreUpTo n table.files) number_is f.facts.up_to) can
          distinct (counts_fed distinct settles)
          (firings_text e.handed ready e.distinct still (fed_firings still list)) answered.spans out (out ++ ok_text (e.count + 1)) out'
          (λ h s contents upto. (
            fed_text e.handed ready table.files e.distinct list changed e.clock e.subscriptions r.holds.rise (enough h s contents upto),
            told.spans ∙ fed_spans e.handed ready table.files e.distinct list changed e.clock e.subscriptions r.holds.rise (enough h s contents upto) (length (out ++ ok_text (e.count + 1))),
          ))
          answered _ refl told.written refl (λ i. record { from = told.from i; to = told.to i; spans = answered.spans })

      -- the answer to the change, by what was told of the files as they were fed
      pub change_answers : (known : Handed) → e.handed ≡ known → (out out' : List ℕ) (answered : Answered) (cache : List Cached) (distinct : DistinctTable)
          → HasSettled e.handed.relations ready live_table (fed_firings live_table list) e.distinct distinct → IsAnswered (e.count + 1) known ready e.distinct live_table (fed_firings live_table list) out out' answered
          → Applies e (Delta changed) out (Ok answered) (changed_engine e after live_table cache distinct) out'
      change_answers known handled out out' answered cache distinct settles told =
          subst (λ (p : List Kept × ℕ). Applies e (Delta changed) out (Ok answered) (record e { store = after; clock = p.1; count = e.count + 1; subscriptions = p.0; table = table; cache = cache; distinct = distinct }) out') (λ i. (sym f.subscriptions i, sym f.instant i))
          (applies_cached e (Delta changed) out (Ok answered) (record e { store = after; count = e.count + 1; table = table; distinct = distinct }) out' cache
          (changed_applies distinct (still_settled distinct settles) out out' answered
          (subst (λ (p : LiveState × Handed). IsAnswered (e.count + 1) p.1 ready e.distinct p.0 (fed_firings p.0 list) out out' answered) (λ i. (record { table = table; subscriptions = f.subscriptions i; instant = f.instant i }, sym handled i)) told)))
