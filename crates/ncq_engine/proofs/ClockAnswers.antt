-- A move of the clock that is accepted, from what the calls give.
use Rattle.std.proofs.Common.{◌≡◌, ℕ, ◌+◌, ◌==◌, false, not, List, ◌∷◌, ◌++◌, map, length, refl, sym, ◌∙◌, ap, subst, inl}
use Rattle.std.specs.Prelude.{Ok, is_some, nat_eq, nat_lt, IsSome}
use Rattle.std.specs.List.{filter, flat_map, list_any, AllByRecursion}
use Rattle.ncq_book.specs.declared.subscription.Subscription.{Subscription as Kept}
use Rattle.ncq_book.specs.Books.{subscription_of, timing_of}
use Rattle.ncq_cache.specs.Cached.{Cached}
use Rattle.ncq_callback.specs.Labels.{Handed}
use Rattle.ncq_distinct.specs.DistinctTables.{DistinctTable}
use Rattle.ncq_event.specs.Calendars.{due_firings, expired_at}
use Rattle.ncq_event.specs.declared.firing.Firing.{Firing}
use Rattle.ncq_event.specs.Instants.{is_expired}
use Rattle.ncq_group.specs.Tables.{Facts, TableState}
use Rattle.ncq_live.specs.LiveTables.{IsLiveTable, LiveState}
use Rattle.ncq_script.specs.declared.command.Command.TheVariants.{Clock}
use Rattle.ncq_shelf.specs.Contents.{AreUpTo}
use Rattle.ncq_engine.specs.declared.telling.Answered.{Answered}
use Rattle.ncq_engine.specs.Applies.{Applies, ok_text}
use Rattle.ncq_engine.specs.Cached.{Grows, KeepsPairs}
use Rattle.ncq_engine.specs.DistinctCounts.{AreCounted, IsCounted}
use Rattle.ncq_engine.specs.Engines.{CanTell, KeepsCounts, Pairwise, fired_if, moved_instant}
use Rattle.ncq_engine.specs.History.{History, changes, live, timing_of as timed_as}
use Rattle.ncq_engine.specs.declared.span.Span.{Span}
use Rattle.ncq_engine.specs.Stands.{AreContents, EngineState, Follows, Keeps}
use Rattle.ncq_engine.proofs.FiringLaws.{firing_spans}
use Rattle.ncq_engine.specs.Tellings.{IsLeftBy, expired_of, firing_text, is_news_at, noted_by, without}
use Rattle.ncq_engine.proofs.BookLaws.{move_fired, move_fires, move_text, move_there, move_place}
use Rattle.ncq_engine.proofs.ByInstall.{found_each}
use Rattle.ncq_engine.proofs.ClockLaws.{clock_accepted, left_kept, moved_each, unexpired}
use Rattle.ncq_engine.proofs.CountedLaws.{HasSettled, IsAskedAs, counted_left, counts_follow, stay_out}
use Rattle.ncq_engine.proofs.ExpiryLaws.{lines_are, out_are}
use Rattle.ncq_engine.proofs.CachedAnswers.{keeps_left, keeps_told}
use Rattle.ncq_engine.proofs.CachedLaws.{grown_serve, serve_left}
use Rattle.ncq_engine.proofs.EngineLaws.{applies_cached}
use Rattle.ncq_engine.proofs.HistoryLaws.{installed}
use Rattle.ncq_engine.proofs.InvariantLaws.{Invariant, invariant_cached, invariant_counted, invariant_left, invariant_noted}
use Rattle.ncq_engine.proofs.KeptCounts.{AreRemoved, counts_left, counts_noted, counts_settled}
use Rattle.ncq_engine.proofs.Lists.{each_filter, each_more}
use Rattle.ncq_engine.proofs.NotedLaws.{any_flip}

-- the engine behind the move: what is left, what is kept of what was told, and the counts
abbrev pub moved_engine : EngineState → LiveState → List Cached → DistinctTable → EngineState
moved_engine e live_table cache distinct =
    record e { clock = live_table.instant; count = e.count + 1; subscriptions = live_table.subscriptions; table = live_table.table; cache = cache; distinct = distinct }

-- the live table of an engine
abbrev pub live_of : EngineState → LiveState
live_of e = record { table = e.table; subscriptions = e.subscriptions; instant = e.clock }

-- what waited for the firings was settled, and then those that expire lost their counts
pub record AreSettled (e : EngineState) (firings : List Firing) (expired : List ℕ) (distinct : DistinctTable) : Type 0 where
  pub between : DistinctTable
  pub settles : HasSettled e.handed.relations e.store (live_of e) firings e.distinct between
  pub removed : AreRemoved expired between distinct

-- the engine with the command counted
abbrev pub counted_engine : EngineState → EngineState
counted_engine e = record e { count = e.count + 1 }

-- who is due and has news, and who expires, as the book says
pub record AreAsked (e : EngineState) (to : ℕ) (firings : List Firing) (expired : List ℕ) : Type 0 where
  pub holds : Invariant e
  pub facts : Facts e.table
  pub due : List Firing
  pub due_is : due ≡ due_firings e.clock to (map timing_of e.subscriptions)
  pub kept_is : firings ≡ filter (is_news_at e.store e.subscriptions) due
  pub expired_is : expired ≡ expired_at to (map timing_of e.subscriptions)

-- what is left on the live table
pub record IsMoved (e : EngineState) (to : ℕ) (firings : List Firing) (expired : List ℕ) (live_table : LiveState) : Type 0 where
  pub left : IsLeftBy expired (record { table = e.table; subscriptions = noted_by e.store.changes firings e.subscriptions; instant = to }) live_table
  pub owns : IsLiveTable live_table.table live_table.subscriptions

-- what was written
pub record IsWritten (e : EngineState) (known : Handed) (firings : List Firing) (expired : List ℕ) (line told out' : List ℕ) (places : List Span) : Type 0 where
  pub text : told ≡ line ++ flat_map (firing_text known e.store e.table.files e.distinct e.subscriptions) firings
  pub lines : out' ≡ told ++ flat_map (expired_of e.subscriptions) expired
  pub stand : places ≡ firing_spans known e.store e.table.files e.distinct e.subscriptions (length line) firings

module _ {e : EngineState} {to : ℕ} {firings : List Firing} {expired : List ℕ} (asked : AreAsked e to firings expired) where
  upto : AreUpTo e.store.changes e.table.files
  upto = subst (λ n. AreUpTo n e.table.files) asked.holds.number asked.facts.up_to

  abbrev moved : List Kept
  moved = map (λ m. fired_if (is_some (moved_instant e.store e.clock to m)) e.store m) e.subscriptions

  moved_is : noted_by e.store.changes firings e.subscriptions ≡ moved
  moved_is = move_fired e.store e.clock to e.subscriptions asked.holds.rise asked.due firings firings asked.due_is asked.kept_is refl

  -- those that fire are there
  pub there : AllByRecursion (λ f. IsSome (subscription_of f.install e.subscriptions)) firings
  there = move_there e.store e.clock to e.subscriptions asked.holds.rise asked.due firings firings asked.due_is asked.kept_is refl

  -- the subscriptions can be told
  pub clock_can : (known : Handed) → e.handed ≡ known → AllByRecursion (CanTell known e.store e.table) e.subscriptions
  clock_can known handled = subst (λ (l : Handed). AllByRecursion (CanTell l e.store e.table) e.subscriptions) handled asked.holds.can

  -- what holds once they were told
  pub told_holds : (cache : List Cached) → Grows e.handed.relations e.table e.cache cache → Invariant (record e { cache = cache })
  told_holds cache grows = invariant_cached e cache (grown_serve e.handed.relations e.table e.cache cache asked.holds.serve grows) asked.holds

  -- and what is kept then
  pub told_keeps : (table : TableState) (cache : List Cached) → table ≡ e.table → Grows e.handed.relations e.table e.cache cache → KeepsPairs e.handed.relations e.table e.cache table cache
  told_keeps table cache same = keeps_told e.handed.relations e.table table e.cache cache same asked.holds.serve

  left_is : (live_table : LiveState) → IsMoved e to firings expired live_table → live_table.subscriptions ≡ unexpired to moved
  left_is live_table m = m.left.subscriptions ∙ ap (without expired) moved_is ∙ out_are to (λ m. is_some (moved_instant e.store e.clock to m)) e.store e.subscriptions expired asked.holds.rise asked.expired_is

  -- what holds behind the move
  pub moved_holds : (live_table : LiveState) → IsMoved e to firings expired live_table → (cache : List Cached) (distinct : DistinctTable) → Grows e.handed.relations e.table e.cache cache → AreSettled e firings expired distinct
      → Invariant (moved_engine e live_table cache distinct)
  moved_holds live_table m cache distinct grows settled =
      let serve = serve_left e.handed.relations e.table live_table.table cache m.left.files m.left.number m.left.next_file (grown_serve e.handed.relations e.table e.cache cache asked.holds.serve grows) in
      let noted = invariant_noted e.store (λ m. is_some (moved_instant e.store e.clock to m)) (counted_engine e) refl asked.facts.up_to (invariant_counted e asked.holds) in
      let subscriptions_are : live_table.subscriptions ≡ filter (λ m. not (is_expired m.timing to)) moved = left_is live_table m in
      subst (λ (ms : List Kept). Invariant (record e { clock = live_table.instant; count = e.count + 1; subscriptions = ms; table = live_table.table; cache = cache; distinct = distinct })) (sym subscriptions_are)
      (invariant_cached (record e { count = e.count + 1; subscriptions = filter (λ m. not (is_expired m.timing to)) moved; table = live_table.table; distinct = distinct }) cache serve
      (invariant_left (record (counted_engine e) { subscriptions = moved }) (λ m. not (is_expired m.timing to)) live_table.table distinct noted (subst (IsLiveTable live_table.table) subscriptions_are m.owns) m.left.files m.left.number m.left.next_file
      (subst (λ (ms : List Kept). KeepsCounts ms distinct) (sym m.left.subscriptions ∙ subscriptions_are) (left_counts settled))))
    where
      between_counts : (settled : AreSettled e firings expired distinct) → KeepsCounts e.subscriptions settled.between
      between_counts settled = let s = settled.settles in counts_settled e.handed.relations e.store (live_of e) firings e.distinct s.waited settled.between asked.holds.counts s.waits s.same s.settled

      left_counts : AreSettled e firings expired distinct → KeepsCounts (without expired (noted_by e.store.changes firings e.subscriptions)) distinct
      left_counts settled =
          counts_left expired (noted_by e.store.changes firings e.subscriptions) settled.between distinct
          (subst (λ (ms : List Kept). KeepsCounts ms settled.between) (sym moved_is) (counts_noted (λ m. is_some (moved_instant e.store e.clock to m)) e.store e.subscriptions settled.between (between_counts settled))) settled.removed

  -- the counts follow
  counts_moved : (live_table : LiveState) → IsMoved e to firings expired live_table → (distinct : DistinctTable) → AreSettled e firings expired distinct
      → (h : History) → Follows e h → AreContents e.table.files (Clock to ∷ h) → AreUpTo (changes (Clock to ∷ h)) e.table.files → AreCounted e.handed.relations (Clock to ∷ h) distinct
  counts_moved live_table m distinct settled h s contents upto_now =
      counted_left e.handed (Clock to ∷ h) expired settled.between distinct settled.removed (live (Clock to ∷ h)) live_table.subscriptions
      (subst (λ (ms : List Kept). Pairwise (Keeps e.handed (Clock to ∷ h)) (live (Clock to ∷ h)) ms) (sym (left_is live_table m)) (left_kept e to upto asked.holds.can h s))
      (subst (λ (ms : List Kept). AllByRecursion (λ m. list_any (nat_eq m.install) expired ≡ false) ms) (sym m.left.subscriptions) (stay_out expired (noted_by e.store.changes firings e.subscriptions)))
      (each_filter (IsCounted e.handed.relations (Clock to ∷ h) settled.between) (λ s. not (is_expired (timed_as s) to)) (live h)
      (counts_follow e.handed h (Clock to) e.store (live_of e) s.last s.rising contents upto_now (moved_instant e.store e.clock to) firings e.distinct settled.between settled.settles (live h) e.subscriptions
      (moved_each e.handed h e.store s.last s.rising e.clock to s.clock (live h) e.subscriptions s.subscriptions (installed h)) asked.holds.can (found_each e.subscriptions asked.holds.rise) asks s.counted))
    where
      asks : AllByRecursion (IsAskedAs e.handed.relations e.store e.table.files firings (moved_instant e.store e.clock to)) e.subscriptions
      asks = each_more (λ m. list_any (λ f. f.install == m.install) firings ≡ is_some (moved_instant e.store e.clock to m)) (IsAskedAs e.handed.relations e.store e.table.files firings (moved_instant e.store e.clock to))
          (λ m fires. inl (any_flip m firings ∙ fires)) e.subscriptions
          (move_fires e.store e.clock to e.subscriptions asked.holds.rise asked.due firings firings asked.due_is asked.kept_is refl)

  -- what it keeps
  pub moved_keeps : (live_table : LiveState) → IsMoved e to firings expired live_table → (cache : List Cached) → Grows e.handed.relations e.table e.cache cache → KeepsPairs e.handed.relations e.table e.cache live_table.table cache
  moved_keeps live_table m cache = keeps_left e.handed.relations e.table live_table.table m.left.files m.left.number m.left.next_file e.cache cache

  -- the answer to the move, by what was told and what was left
  pub moved_applies : (live_table : LiveState) → IsMoved e to firings expired live_table → nat_lt to e.clock ≡ false → (known : Handed) → e.handed ≡ known
      → (out line told out' : List ℕ) (places : List Span) (applied : Answered) (cache : List Cached) (distinct : DistinctTable) → AreSettled e firings expired distinct
      → line ≡ out ++ ok_text (e.count + 1) → IsWritten e known firings expired line told out' places
      → applied.from ≡ length line → applied.to ≡ length told → applied.spans ≡ places
      → Applies e (Clock to) out (Ok applied) (moved_engine e live_table cache distinct) out'
  moved_applies live_table m later known handled out line told out' places applied cache distinct settled line_is written from ends notices =
      let w = subst (λ (l : Handed). IsWritten e l firings expired line told out' places) (sym handled) written in
      subst (λ (n : ℕ). Applies e (Clock to) out (Ok applied) (record e { clock = n; count = e.count + 1; subscriptions = live_table.subscriptions; table = live_table.table; cache = cache; distinct = distinct }) out') (sym m.left.instant)
      (applies_cached e (Clock to) out (Ok applied) (record e { clock = to; count = e.count + 1; subscriptions = live_table.subscriptions; table = live_table.table; distinct = distinct }) out' cache
      (clock_accepted e to upto asked.holds.can distinct (counts_moved live_table m distinct settled) out line told out' live_table.subscriptions live_table.table applied later (left_is live_table m) m.left.files line_is
      (w.text ∙ ap (λ text. line ++ text) (move_text e.store e.clock to e.subscriptions asked.holds.rise asked.due firings firings asked.due_is asked.kept_is refl e.handed e.table.files e.distinct))
      (w.lines ∙ ap (λ text. told ++ text) (lines_are to (λ m. is_some (moved_instant e.store e.clock to m)) e.store e.subscriptions expired asked.holds.rise asked.expired_is))
      from ends
      (notices ∙ w.stand ∙ move_place e.store e.clock to e.subscriptions asked.holds.rise asked.due firings firings asked.due_is asked.kept_is refl e.handed e.table.files e.distinct (length line))))
