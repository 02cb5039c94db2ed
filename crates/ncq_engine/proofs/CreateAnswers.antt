-- A create that is accepted, from what the calls give.
use Rattle.std.proofs.Common.{◌≡◌, ℕ, ◌+◌, ◌<◌, ◌≤◌, ◌-◌, ◌^◌, ◌==◌, false, List, [], ◌∷◌, ◌++◌, map, length, refl, sym, ◌∙◌, ap, subst, inl, arith}
use Rattle.std.specs.Prelude.{Ok, Some, is_some, IfSome, IsSome, not}
use Rattle.std.specs.FinMap.{get}
use Rattle.std.specs.List.{filter, flat_map, list_any, AllByRecursion}
use Rattle.std.specs.Option.{option_map}
use Rattle.std.specs.Str.{bytes_eq}
use Rattle.ncq_base.specs.declared.atom.FileId.{FileId}
use Rattle.ncq_bind.specs.Bindings.{Binds, roots_in}
use Rattle.ncq_book.specs.declared.subscription.Subscription.{Subscription as Kept}
use Rattle.ncq_book.specs.Books.{alike, InstallsRise, is_of, subscription_of}
use Rattle.ncq_book.proofs.Lists.{each_leads}
use Rattle.ncq_cache.specs.Cached.{Cached}
use Rattle.ncq_callback.specs.Labels.{Handed}
use Rattle.ncq_change.specs.Stores.{world_in}
use Rattle.ncq_distinct.specs.DistinctTables.{DistinctTable}
use Rattle.ncq_event.specs.declared.firing.Firing.{Firing}
use Rattle.ncq_event.specs.declared.timing.Timing.{Timing}
use Rattle.ncq_event.specs.Instants.{is_expired}
use Rattle.ncq_group.specs.Installs.{IsInstalled}
use Rattle.ncq_group.specs.Releases.{IsReleased}
use Rattle.ncq_group.specs.Tables.{Facts, TableState, mark_of}
use Rattle.ncq_group.specs.declared.mark.GroupMark.{GroupMark}
use Rattle.ncq_plan.specs.declared.expr.Expr.{Expr}
use Rattle.ncq_plan.specs.declared.query.NormalQuery.{NormalQuery}
use Rattle.ncq_plan.specs.Late.{bare_of}
use Rattle.ncq_plan.specs.Plans.{plan_of}
use Rattle.ncq_strategy.specs.Choices.{choice_of, plan_by}
use Rattle.ncq_plan.specs.WellFormed.{IsWellFormed}
use Rattle.ncq_strategy.proofs.ChoiceLaws.{either_formed}
use Rattle.ncq_live.specs.LiveTables.{HasJoined, LiveState, plan_in}
use Rattle.ncq_script.specs.declared.command.Command.TheVariants.{Create}
use Rattle.ncq_shelf.specs.Contents.{AreUpTo, Fits}
use Rattle.ncq_shelf.specs.Contents.{cut_to}
use Rattle.ncq_shelf.specs.KeptFiles.{KeptFile}
use Rattle.ncq_xmlql.specs.declared.model.Statement.{Statement}
use Rattle.ncq_xmlql.specs.WellFormed.{IsWellFormed as IsWhole}
use Rattle.ncq_engine.specs.declared.telling.Answered.{Answered}
use Rattle.ncq_engine.specs.Applies.{Applies, kind_at, ok_text}
use Rattle.ncq_engine.specs.Cached.{AllServe, Grows, KeepsPairs}
use Rattle.ncq_engine.specs.Engines.{CanTell, InstallsAreUpTo, fired_if, latest_in, new_subscription}
use Rattle.ncq_engine.specs.Notices.{kind_in, name_at}
use Rattle.ncq_engine.specs.Output.{is_at_odds}
use Rattle.ncq_engine.specs.Joins.{IsSubscriptionOf, timed}
use Rattle.ncq_engine.specs.Scans.{scanned_by}
use Rattle.ncq_engine.specs.DistinctCounts.{AreCounted, IsCounted}
use Rattle.ncq_engine.specs.History.{History, changes, created, live}
use Rattle.ncq_engine.specs.Stands.{AreContents, EngineState, Follows}
use Rattle.ncq_engine.specs.Tellings.{IsAnswered, firing_text, noted_by, started_at}
use Rattle.ncq_engine.proofs.BookLaws.{create_fired, create_fires, create_place, create_text, create_there}
use Rattle.ncq_engine.proofs.ByInstall.{found_each}
use Rattle.ncq_engine.proofs.ClockAnswers.{counted_engine, live_of}
use Rattle.ncq_engine.proofs.CountedLaws.{HasSettled, IsAskedAs, counts_follow}
use Rattle.ncq_engine.specs.declared.span.Span.{Span}
use Rattle.ncq_engine.proofs.FiringLaws.{firing_spans}
use Rattle.ncq_engine.proofs.CreateLaws.{above_all, create_accepted, created_instant, firing, own_counted}
use Rattle.ncq_engine.proofs.CachedLaws.{grown_serve, keeps_grown, of_old_installed, serve_installed}
use Rattle.ncq_engine.proofs.EngineLaws.{applies_cached}
use Rattle.ncq_engine.proofs.InvariantLaws.{Invariant, invariant_added, invariant_cached, invariant_counted, invariant_counts, invariant_noted}
use Rattle.ncq_engine.proofs.KeptCounts.{counts_settled}
use Rattle.ncq_engine.proofs.Lists.{each_more, each_push}
use Rattle.ncq_engine.proofs.NotedLaws.{any_flip}
use Rattle.ncq_engine.proofs.PlanningLaws.{plan_new}
use Rattle.ncq_engine.proofs.ScanLaws.{asked_is, either_scans}
use Rattle.ncq_engine.proofs.TableLaws.{can_new}
use Rattle.ncq_engine.proofs.UndoLaws.{at_mark_again, subscriptions_back, table_again}

-- the subscription came in, with the file of its plan
pub record IsIn (inside : EngineState) (query : NormalQuery) (made : FileId → Kept) (live_table : LiveState) : Type 0 where
  pub file : FileId
  pub installed : IsInstalled (plan_new inside query) inside.table live_table.table file.0
  pub subscriptions : live_table.subscriptions ≡ inside.subscriptions ++ made file ∷ []
  pub fits : Fits inside.table.number (world_in inside.store) live_table.table.files
  pub instant : live_table.instant ≡ inside.clock
  pub facts : Facts live_table.table

-- its firing, if it starts now, as the book says
pub record IsStarting (live_table : LiveState) (install : ℕ) (firings : List Firing) : Type 0 where
  pub installs : List ℕ
  pub installs_is : installs ≡ install ∷ []
  pub kept : List Firing
  pub kept_is : kept ≡ flat_map (started_at live_table.instant live_table.subscriptions) installs
  pub slice_is : firings ≡ kept

-- what was written
pub record IsToldFirst (inside : EngineState) (known : Handed) (live_table : LiveState) (firings : List Firing) (line out' : List ℕ) (places : List Span) : Type 0 where
  pub text : out' ≡ line ++ flat_map (firing_text known inside.store live_table.table.files inside.distinct live_table.subscriptions) firings
  pub stand : places ≡ firing_spans known inside.store live_table.table.files inside.distinct live_table.subscriptions (length line) firings

-- the statement and what was found of it
pub record IsRead (e : EngineState) (statement : Statement) (query : NormalQuery) (action : ℕ) : Type 0 where
  pub whole : IsWhole statement
  pub binds : Binds e.handed.relations statement.query (roots_in e.store) (Ok query)
  pub formed : IsWellFormed query
  pub within : action < length e.handed.labels
  pub kind : kind_at e.handed.labels action ≡ kind_in statement.action e.handed.labels
  pub named : name_at e.handed.labels action ≡ Some statement.action
  pub fitting : is_at_odds (kind_in statement.action e.handed.labels) statement.argument ≡ false
  pub free : list_any (λ m. bytes_eq statement.name m.name) e.subscriptions ≡ false
  pub timely : is_expired (timed statement e.clock) (timed statement e.clock).start ≡ false

-- the subscription that comes of them, with this file
abbrev pub made : EngineState → Statement → NormalQuery → ℕ → FileId → Kept
made e statement query action file = new_subscription statement query (alike (bare_of query) e.subscriptions) (timed statement e.clock) action e.creates file

module _ (e : EngineState) (statement : Statement) (query : NormalQuery) (action : ℕ) (holds : Invariant e) (read : IsRead e statement query action) where
  abbrev own : FileId → Kept
  own = made e statement query action

  few : e.creates + 1 ≤ e.count + 1
  few = let c = holds.creates_too in omega (arith, c)

  pub below : (file : FileId) → AllByRecursion (λ m. m.install < (own file).install) e.subscriptions
  below file = above_all e.creates e.subscriptions (e.creates + 1) holds.installed refl

  module _ (live_table : LiveState) (inn : IsIn (counted_engine e) query own live_table) where
    abbrev all : List Kept
    all = e.subscriptions ++ own inn.file ∷ []

    fits_now : Fits live_table.table.number (world_in e.store) live_table.table.files
    fits_now = subst (λ n. Fits n (world_in e.store) live_table.table.files) (sym inn.installed.same) inn.fits

    own_can : CanTell e.handed e.store live_table.table (own inn.file)
    own_can =
        can_new e.handed e.store live_table.table (world_in e.store) fits_now (own inn.file) read.formed read.within refl inn.installed.stands
        (λ any. asked_is statement read.whole any ∙ ap (λ (q : NormalQuery). latest_in any (scanned_by (plan_of q))) (sym read.binds.answer)
        ∙ ap (latest_in any) (sym (either_scans (choice_of query (alike (bare_of query) e.subscriptions)) query read.formed.some)))

    added : Invariant (record e { count = e.count + 1; creates = e.creates + 1; subscriptions = all; table = live_table.table })
    added =
        invariant_added (counted_engine e) (plan_new e query) live_table.table inn.file.0 (own inn.file) (invariant_counted e holds) inn.installed fits_now
        (either_formed (choice_of query (alike (bare_of query) e.subscriptions)) query read.formed).small own_can refl few

    rise : InstallsRise all
    rise = added.rise

    can : AllByRecursion (CanTell e.handed e.store live_table.table) all
    can = added.can

    upto : AreUpTo e.store.changes live_table.table.files
    upto = subst (λ n. AreUpTo n live_table.table.files) (inn.installed.same ∙ holds.number) inn.facts.up_to

    module _ (firings : List Firing) (starting : IsStarting (record { table = live_table.table; subscriptions = all; instant = e.clock }) (e.creates + 1) firings) where
      there : AllByRecursion (λ f. IsSome (subscription_of f.install all)) firings
      there = create_there e.store e.clock e.subscriptions (own inn.file) rise (below inn.file) starting.installs starting.kept firings starting.installs_is starting.kept_is starting.slice_is

      noted_is : noted_by e.store.changes firings all ≡ map (λ m. fired_if (is_some (created_instant e.clock (e.creates + 1) m)) e.store m) all
      noted_is = create_fired e.store e.clock e.subscriptions (own inn.file) rise (below inn.file) starting.installs starting.kept firings starting.installs_is starting.kept_is starting.slice_is

      -- the live table as it is told
      abbrev told_table : LiveState
      told_table = record { table = live_table.table; subscriptions = all; instant = e.clock }

      noted_holds : (distinct : DistinctTable) → HasSettled e.handed.relations e.store told_table firings e.distinct distinct
          → Invariant (record e { count = e.count + 1; creates = e.creates + 1; subscriptions = noted_by e.store.changes firings all; table = live_table.table; distinct = distinct })
      noted_holds distinct s =
          subst (λ (ms : List Kept). Invariant (record e { count = e.count + 1; creates = e.creates + 1; subscriptions = ms; table = live_table.table; distinct = distinct })) (sym noted_is)
          (invariant_noted e.store (λ m. is_some (created_instant e.clock (e.creates + 1) m)) (record e { count = e.count + 1; creates = e.creates + 1; subscriptions = all; table = live_table.table; distinct = distinct }) refl inn.facts.up_to
          (invariant_counts (record e { count = e.count + 1; creates = e.creates + 1; subscriptions = all; table = live_table.table }) distinct (counts_settled e.handed.relations e.store told_table firings e.distinct s.waited distinct added.counts s.waits s.same s.settled) added))

      -- the counts follow
      counts_created : (distinct : DistinctTable) → HasSettled e.handed.relations e.store told_table firings e.distinct distinct
          → (h : History) → Follows e h → AreContents live_table.table.files (Create statement ∷ h) → AreUpTo (changes (Create statement ∷ h)) live_table.table.files → AreCounted e.handed.relations (Create statement ∷ h) distinct
      counts_created distinct settles h s contents upto_now =
          counts_follow e.handed h (Create statement) e.store told_table s.last s.rising contents upto_now (created_instant e.clock (e.creates + 1)) firings e.distinct distinct settles (live h ++ created statement h ∷ []) all
          (firing e live_table.table statement query action inn.file read.whole read.binds read.kind read.named inn.installed holds.number inn.fits upto can holds.installed holds.counts h s) can (found_each all rise)
          (each_more (λ m. list_any (λ f. f.install == m.install) firings ≡ is_some (created_instant e.clock (e.creates + 1) m)) (IsAskedAs e.handed.relations e.store live_table.table.files firings (created_instant e.clock (e.creates + 1)))
          (λ m fires. inl (any_flip m firings ∙ fires)) all
          (create_fires e.store e.clock e.subscriptions (own inn.file) rise (below inn.file) starting.installs starting.kept firings starting.installs_is starting.kept_is starting.slice_is))
          (each_push (IsCounted e.handed.relations h e.distinct) (live h) (created statement h) s.counted
          (own_counted e live_table.table statement query action inn.file read.whole read.binds read.kind read.named inn.installed holds.number inn.fits upto can holds.installed holds.counts h s))

      applies : (distinct : DistinctTable) → HasSettled e.handed.relations e.store told_table firings e.distinct distinct → (out line out' : List ℕ) (places : List Span) (applied : Answered) → line ≡ out ++ ok_text (e.count + 1)
          → IsToldFirst (counted_engine e) e.handed told_table firings line out' places
          → applied.from ≡ length line → applied.to ≡ length out' → applied.spans ≡ places
          → Applies e (Create statement) out (Ok applied) (record e { count = e.count + 1; creates = e.creates + 1; subscriptions = noted_by e.store.changes firings all; table = live_table.table; distinct = distinct }) out'
      applies distinct settles out line out' places applied line_is told from to notices =
          create_accepted e live_table.table statement query action inn.file read.whole read.binds read.kind read.named inn.installed holds.number inn.fits upto
          read.fitting read.free read.timely can holds.installed holds.counts distinct (counts_created distinct settles) out line out' applied (noted_by e.store.changes firings all) line_is
          (told.text ∙ ap (λ text. line ++ text) (create_text e.store e.clock e.subscriptions (own inn.file) rise (below inn.file) starting.installs starting.kept firings starting.installs_is starting.kept_is starting.slice_is e.handed live_table.table.files e.distinct))
          from to
          (notices ∙ told.stand ∙ create_place e.store e.clock e.subscriptions (own inn.file) rise (below inn.file) starting.installs starting.kept firings starting.installs_is starting.kept_is starting.slice_is e.handed live_table.table.files e.distinct (length line))
          noted_is

-- what was read of a subscription's statement
pub read_in : (e : EngineState) (statement : Statement) (m : Kept) → IsSubscriptionOf e statement m → IsRead e statement m.query m.action
read_in e statement m i = record {
  whole = i.whole;
  binds = i.binds;
  formed = i.formed;
  within = i.within;
  kind = i.kind;
  named = i.action;
  fitting = i.fitting;
  free = i.free;
  timely = i.timely;
}

-- its plan is that of a query that comes now
pub planned_now : (e : EngineState) (statement : Statement) (m : Kept) → IsSubscriptionOf e statement m → plan_in m ≡ plan_new e m.query
planned_now e statement m its = ap (λ (k : Kept). plan_by k.choice m.query) its.made

pub free_is : (e : EngineState) (statement : Statement) (m : Kept) → IsSubscriptionOf e statement m → list_any (λ n. bytes_eq m.name n.name) e.subscriptions ≡ false
free_is e statement m i = ap (λ (k : Kept). list_any (λ (n : Kept). bytes_eq k.name n.name) e.subscriptions) i.made ∙ i.free

pub above_is : (e : EngineState) (statement : Statement) (m : Kept) → IsSubscriptionOf e statement m → Invariant e → AllByRecursion (λ n. n.install < m.install) e.subscriptions
above_is e statement m i holds = above_all e.creates e.subscriptions m.install holds.installed (ap (λ (k : Kept). k.install) i.made)

-- it is one, as the calls of a create tell
pub subscription_of_it : (e : EngineState) (known : Handed) → e.handed ≡ known → (statement : Statement) (query : NormalQuery) (action : ℕ) (timing : Timing) (subscription : Kept) → timing ≡ timed statement e.clock
    → subscription ≡ new_subscription statement query (alike (bare_of query) e.subscriptions) timing action e.creates subscription.file
    → IsWhole statement → Binds e.handed.relations statement.query (roots_in e.store) (Ok query) → IsWellFormed query → action < length known.labels → kind_at known.labels action ≡ kind_in statement.action known.labels → name_at known.labels action ≡ Some statement.action
    → is_at_odds (kind_at known.labels action) statement.argument ≡ false → list_any (λ m. bytes_eq statement.name m.name) e.subscriptions ≡ false → is_expired timing timing.start ≡ false
    → IsSubscriptionOf e statement subscription
subscription_of_it e known handled statement query action timing subscription now one whole binds formed within kind named fits free late =
    subst (IsSubscriptionOf e statement) (sym subscription_is) (record {
      whole = whole;
      binds = binds;
      formed = formed;
      within = subst (λ (l : Handed). action < length l.labels) (sym handled) within;
      kind = subst (λ (l : Handed). kind_at l.labels action ≡ kind_in statement.action l.labels) (sym handled) kind;
      action = subst (λ (l : Handed). name_at l.labels action ≡ Some statement.action) (sym handled) named;
      fitting = subst (λ (l : Handed). is_at_odds (kind_in statement.action l.labels) statement.argument ≡ false) (sym handled) (ap (λ k. is_at_odds k statement.argument) (sym kind) ∙ fits);
      free = free;
      timely = subst (λ (t : Timing). is_expired t t.start ≡ false) now late;
      made = refl;
    })
  where
    subscription_is : subscription ≡ new_subscription statement query (alike (bare_of query) e.subscriptions) (timed statement e.clock) action e.creates subscription.file
    subscription_is = one ∙ ap (λ t. new_subscription statement query (alike (bare_of query) e.subscriptions) t action e.creates subscription.file) now

-- the engine with this live table behind a create, what is kept of what was told, and the counts
abbrev pub created_engine : EngineState → LiveState → List Cached → DistinctTable → EngineState
created_engine e after cache distinct =
    record e { clock = after.instant; count = e.count + 1; creates = e.creates + 1; subscriptions = after.subscriptions; table = after.table; cache = cache; distinct = distinct }

-- the subscription came in, as the live table tells
pub record HasCome (e : EngineState) (statement : Statement) (m : Kept) (plan : Expr) (live_table : LiveState) : Type 0 where
  pub holds : Invariant e
  pub its : IsSubscriptionOf e statement m
  pub planned : plan ≡ plan_in m
  pub joined : HasJoined plan m (live_of e) live_table
  pub fits : Fits e.table.number (world_in e.store) live_table.table.files
  pub instant : live_table.instant ≡ e.clock
  pub before : Facts e.table
  pub facts : Facts live_table.table

module _ {e : EngineState} {statement : Statement} {m : Kept} {plan : Expr} {live_table : LiveState} (c : HasCome e statement m plan live_table) where
  abbrev made_with : FileId → Kept
  made_with = made e statement m.query m.action

  read : IsRead e statement m.query m.action
  read = read_in e statement m c.its

  inn : IsIn (counted_engine e) m.query made_with live_table
  inn = record {
    file = c.joined.file;
    installed = subst (λ p. IsInstalled p e.table live_table.table c.joined.file.0) (c.planned ∙ planned_now e statement m c.its) c.joined.installed;
    subscriptions = c.joined.subscriptions ∙ ap (λ (k : Kept). e.subscriptions ++ record k { file = c.joined.file } ∷ []) c.its.made;
    fits = c.fits;
    instant = c.instant;
    facts = c.facts;
  }

  abbrev full : List Kept
  full = e.subscriptions ++ made_with inn.file ∷ []

  -- the subscriptions can be told
  pub come_can : (known : Handed) → e.handed ≡ known → AllByRecursion (CanTell known e.store live_table.table) live_table.subscriptions
  come_can known handled =
      subst (λ (ms : List Kept). AllByRecursion (CanTell known e.store live_table.table) ms) (sym inn.subscriptions)
      (subst (λ (l : Handed). AllByRecursion (CanTell l e.store live_table.table) full) handled (can e statement m.query m.action c.holds read live_table inn))

  -- what is kept of what was told serves
  pub come_serve : AllServe e.handed.relations live_table.table e.cache
  come_serve = serve_installed e.handed.relations (plan_new e m.query) e.table live_table.table inn.file.0 inn.installed inn.installed.order e.cache c.holds.serve

  module _ (firings : List Firing) (started : firings ≡ flat_map (started_at live_table.instant live_table.subscriptions) ((e.creates + 1) ∷ []))
      (after : LiveState) (noted : after ≡ record live_table { subscriptions = noted_by e.store.changes firings live_table.subscriptions }) where
    start : IsStarting (record { table = live_table.table; subscriptions = full; instant = e.clock }) (e.creates + 1) firings
    start = subst (λ (p : List Kept × ℕ). IsStarting (record { table = live_table.table; subscriptions = p.0; instant = p.1 }) (e.creates + 1) firings) (λ i. (inn.subscriptions i, inn.instant i))
        (record { installs = (e.creates + 1) ∷ []; installs_is = refl; kept = firings; kept_is = started; slice_is = refl })

    after_is : after ≡ record { table = live_table.table; subscriptions = noted_by e.store.changes firings full; instant = e.clock }
    after_is = noted ∙ (λ i. record { table = live_table.table; subscriptions = noted_by e.store.changes firings (inn.subscriptions i); instant = inn.instant i })

    -- what waited for it was settled
    full_settled : (distinct : DistinctTable) → HasSettled e.handed.relations e.store live_table firings e.distinct distinct → HasSettled e.handed.relations e.store (record { table = live_table.table; subscriptions = full; instant = e.clock }) firings e.distinct distinct
    full_settled distinct =
        subst (λ (l : LiveState). HasSettled e.handed.relations e.store l firings e.distinct distinct) (λ i. record { table = live_table.table; subscriptions = inn.subscriptions i; instant = inn.instant i })

    -- what holds behind it
    pub come_holds : (cache : List Cached) (distinct : DistinctTable) → Grows e.handed.relations live_table.table e.cache cache → HasSettled e.handed.relations e.store live_table firings e.distinct distinct → Invariant (created_engine e after cache distinct)
    come_holds cache distinct grows settles =
        subst (λ (l : LiveState). Invariant (created_engine e l cache distinct)) (sym after_is)
        (invariant_cached (record e { count = e.count + 1; creates = e.creates + 1; subscriptions = noted_by e.store.changes firings full; table = live_table.table; distinct = distinct }) cache
        (grown_serve e.handed.relations live_table.table e.cache cache come_serve grows) (noted_holds e statement m.query m.action c.holds read live_table inn firings start distinct (full_settled distinct settles)))

    pub come_keeps : (cache : List Cached) → Grows e.handed.relations live_table.table e.cache cache → KeepsPairs e.handed.relations e.table e.cache after.table cache
    come_keeps cache grows =
        subst (λ (l : LiveState). KeepsPairs e.handed.relations e.table e.cache l.table cache) (sym after_is)
        (keeps_grown e.handed.relations e.table live_table.table e.cache cache c.holds.serve (of_old_installed e.handed.relations (plan_new e m.query) e.table live_table.table inn.file.0 inn.installed inn.installed.order) grows)

    -- the answer to the create, by what was told of the files as they are then
    pub come_answers : (known : Handed) → e.handed ≡ known → (out out' : List ℕ) (answered : Answered) (cache : List Cached) (distinct : DistinctTable) → HasSettled e.handed.relations e.store live_table firings e.distinct distinct
        → IsAnswered (e.count + 1) known e.store e.distinct live_table firings out out' answered
        → Applies e (Create statement) out (Ok answered) (created_engine e after cache distinct) out'
    come_answers known handled out out' answered cache distinct settles told =
        subst (λ (l : LiveState). Applies e (Create statement) out (Ok answered) (created_engine e l cache distinct) out') (sym after_is)
        (let t = subst (λ (p : LiveState × Handed). IsAnswered (e.count + 1) p.1 e.store e.distinct p.0 firings out out' answered) (λ i. (record { table = live_table.table; subscriptions = inn.subscriptions i; instant = inn.instant i }, sym handled i)) told in
        applies_cached e (Create statement) out (Ok answered) (record e { count = e.count + 1; creates = e.creates + 1; subscriptions = noted_by e.store.changes firings full; table = live_table.table; distinct = distinct }) out' cache
        (applies e statement m.query m.action c.holds read live_table inn firings start distinct (full_settled distinct settles) out (out ++ ok_text (e.count + 1)) out' answered.spans answered refl (record { text = t.written; stand = t.spans }) t.from t.to refl))

  -- the subscription goes again: all is as before it came
  module _ (low : LiveState) (gone : low.subscriptions ≡ filter (λ n. not (is_of (e.creates + 1) n)) live_table.subscriptions)
      (released : IfSome (subscription_of (e.creates + 1) live_table.subscriptions) (λ n. IsReleased live_table.table.files n.file.0 low.table.files)) where
    behind : AllByRecursion (λ n. n.install < e.creates + 1) e.subscriptions
    behind = above_all e.creates e.subscriptions (e.creates + 1) c.holds.installed refl

    its_install : m.install ≡ e.creates + 1
    its_install = ap (λ (k : Kept). k.install) c.its.made

    pub gone_subscriptions : low.subscriptions ≡ e.subscriptions
    gone_subscriptions = subscriptions_back plan m (live_of e) live_table low c.joined c.before c.facts (e.creates + 1) behind its_install gone released

    pub gone_mark : (mark : GroupMark) → mark ≡ mark_of e.table → (number : ℕ) (file : KeptFile) → get low.table.files number ≡ Some file → (file.content.base ≤ mark.number) × (number < mark.next_file)
    gone_mark = at_mark_again plan m (live_of e) live_table low c.joined c.before c.facts (e.creates + 1) behind its_install gone released

    pub gone_table : (mark : GroupMark) (back : TableState) → mark ≡ mark_of e.table → back.number ≡ mark.number → back.next_file ≡ mark.next_file
        → ((number : ℕ) → get back.files number ≡ option_map (cut_to mark.number) (get low.table.files number)) → back ≡ e.table
    gone_table = table_again plan m (live_of e) live_table low c.joined c.before c.facts (e.creates + 1) behind its_install gone released

-- no more file numbers were given than a new plan leaves room for
pub room_left : (e : EngineState) → Invariant e → e.count < 2 ^ 48 + 1 → e.table.next_file ≤ 2 ^ 64 - 257
room_left e holds few = let a = holds.next in let b = holds.creates_too in omega (arith, a, b, few)

-- subscriptions that rise from one number up to another are no more than the numbers between
few_from : (low most : ℕ) (ms : List Kept) → AllByRecursion (λ m. low ≤ m.install) ms → InstallsRise ms → InstallsAreUpTo most ms → low ≤ most + 1 → length ms + low ≤ most + 1
few_from low most [] lows rising ups l = omega (arith, l)
few_from low most (m ∷ ms) lows rising ups l =
    let up = ups.0 in
    let r = few_from (m.install + 1) most ms (each_leads (λ n. m.install < n.install) (λ n. m.install + 1 ≤ n.install) (λ n less. omega arith) ms rising.0) rising.1 ups.1 (omega (arith, up)) in
    let lo = lows.0 in
    omega (arith, r, lo)

-- so they are as few as the creates
pub subscriptions_few : (e : EngineState) → Invariant e → e.count < 2 ^ 48 + 1 → length e.subscriptions < 2 ^ 64 - 1
subscriptions_few e holds few =
    let r = few_from 0 e.creates e.subscriptions (each_leads (λ m. m.install ≤ e.creates) (λ m. 0 ≤ m.install) (λ m up. omega arith) e.subscriptions holds.installed) holds.rise holds.installed (omega arith) in
    let c = holds.creates_too in
    omega (arith, r, c, few)
