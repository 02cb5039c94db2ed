-- What the engine stands for behind a create.
use Rattle.std.proofs.Common.{◌≡◌, ℕ, ◌+◌, ◌<◌, ◌≤◌, Bool, true, false, ◌&&◌, ◌||◌, ◌==◌, List, [], ◌∷◌, ◌++◌, map, length, refl, sym, ◌∙◌, ap, subst, arith, zero-add}
use Rattle.std.specs.Prelude.{Option, Some, None, Result, Ok, Err, if◌then◌else◌, IfNone, IfSome, nat_eq, nat_le, is_some}
use Rattle.std.proofs.Math.Seq.{take-length}
use Rattle.std.proofs.lemmas.Bool.Decides.{nat_tests}
use Rattle.std.proofs.lemmas.List.{append-nil}
use Rattle.std.specs.List.{flat_map, list_any, AllByRecursion}
use Rattle.std.specs.Str.{bytes_eq}
use Rattle.std.specs.FinMap.{get-empty}
use Rattle.std.specs.Ordering.{nat_cmp}
use Rattle.std.specs.Cmp.Lexicographic.{slice_cmp}
use Rattle.ncq_bag.specs.Bags.{count_in}
use Rattle.ncq_bag.specs.Counts.{stands}
use Rattle.ncq_base.specs.Keys.{ByBytes}
use Rattle.ncq_base.specs.declared.atom.FileId.{FileId}
use Rattle.ncq_bind.specs.Bindings.{Binds, Roots, have_roots, roots_in}
use Rattle.ncq_bind.specs.Bound.{query_is_bound}
use Rattle.ncq_bind.specs.Served.{are_served}
use Rattle.ncq_bind.specs.declared.binding.BindError.{BindError}
use Rattle.ncq_bind.specs.declared.binding.BindError.TheVariants as binding
use Rattle.ncq_change.specs.Stores.{world_in}
use Rattle.ncq_distinct.specs.DistinctTables.{counts_at, DistinctTable}
use Rattle.ncq_event.specs.Calendars.{firing_at}
use Rattle.ncq_event.specs.Instants.{is_expired}
use Rattle.ncq_event.specs.Orders.{ordered_by}
use Rattle.ncq_group.specs.Installs.{IsInstalled}
use Rattle.ncq_group.specs.Tables.{TableState}
use Rattle.ncq_plan.specs.declared.query.NormalQuery.{NormalQuery}
use Rattle.ncq_plan.specs.Late.{bare_of}
use Rattle.ncq_strategy.specs.Choices.{choice_of}
use Rattle.ncq_book.specs.Books.{alike}
use Rattle.ncq_engine.proofs.PlanningLaws.{new_alike, plan_new}
use Rattle.ncq_shelf.specs.Contents.{AreUpTo, Fits}
use Rattle.ncq_script.specs.declared.command.Command.{Command}
use Rattle.ncq_script.specs.declared.command.Command.TheVariants.{Create}
use Rattle.ncq_script.specs.declared.refusal.Refusal.{Refusal}
use Rattle.ncq_script.specs.declared.refusal.Refusal.TheVariants as refusal
use Rattle.ncq_xmlql.specs.declared.model.Query.{Query}
use Rattle.ncq_xmlql.specs.declared.model.Statement.{Statement}
use Rattle.ncq_xmlql.specs.WellFormed.{IsWellFormed as IsWhole}
use Rattle.ncq_engine.specs.declared.telling.Answered.{Answered}
use Rattle.ncq_engine.specs.declared.engine.ApplyError.{ApplyError}
use Rattle.ncq_engine.specs.declared.engine.ApplyError.TheVariants.{Refused}
use Rattle.ncq_book.specs.declared.subscription.Subscription.{Subscription as Kept}
use Rattle.ncq_book.specs.Books.{subscription_of}
use Rattle.ncq_engine.specs.Applies.{Applies, error_of, kind_at, ok_text, query_refusal, refused_query}
use Rattle.ncq_engine.specs.DistinctCounts.{AreCounted, IsCounted, all_at}
use Rattle.ncq_engine.specs.Engines.{CanTell, InstallsAreUpTo, KeepsCounts, Pairwise, NoticeText, fired_if, new_subscription, notice_texts}
use Rattle.ncq_engine.specs.Firing.{fires, is_new}
use Rattle.ncq_engine.specs.History.{History, Subscription, changes, created, creates as creates_of, is_named, live, now, sources, start_of, world}
use Rattle.ncq_engine.specs.Languages.{binding_refusal, language_of}
use Rattle.ncq_engine.specs.Marks.{noted}
use Rattle.ncq_engine.specs.Notices.{firings, kind_in, name_at}
use Rattle.ncq_engine.specs.Output.{first_refusal, is_at_odds, notices, refused_if}
use Rattle.std.specs.Option.{option_or, unwrap_or}
use Rattle.ncq_engine.specs.Joins.{timed}
use Rattle.ncq_engine.specs.Stands.{AreContents, EngineState, Follows, Keeps}
use Rattle.ncq_engine.specs.Tellings.{has_started, started_at}
use Rattle.ncq_engine.proofs.ByInstall.{firings_of, found_first, found_behind}
use Rattle.ncq_engine.proofs.ContentLaws.{contents_installed}
use Rattle.ncq_engine.proofs.EngineLaws.{accepts, gives_up, pairwise_any, refuses, rises_quietly}
use Rattle.ncq_engine.proofs.HistoryLaws.{Installed, installed, never}
use Rattle.ncq_engine.proofs.Keeping.{Agrees, IsFirst, keep_all}
use Rattle.ncq_engine.proofs.Lists.{each_more, each_push, flat_map_append}
use Rattle.ncq_engine.proofs.MarkLaws.{never_first}
use Rattle.ncq_engine.proofs.TellingLoops.{pairwise_push}
use Rattle.ncq_engine.proofs.ToldLaws.{noticed, tells_each, told_list, told_of, told_spans, told_spans_are, told_text_is}
use Rattle.ncq_engine.specs.Spans.{spans}
use Rattle.ncq_plan.specs.Relations.{Relations}
use Rattle.ncq_engine.proofs.Worlds.{roots_are, world_is}

-- a query that binds is not refused, and another for the fault that is found
pub binds_freely : (relations : Relations) (query : Query) (roots : Roots) (normal : NormalQuery) → Binds relations query roots (Ok normal) → binding_refusal relations query roots ≡ None
binds_freely relations query roots normal b =
    λ i. if b.declared i then (if b.root i then (if b.bound i && b.served i then None else Some refusal.Unbound) else Some refusal.Root) else Some refusal.NoSource

binds_not : (relations : Relations) (query : Query) (roots : Roots) (error : BindError) (why : Refusal) → query_refusal error ≡ Some why → Binds relations query roots (Err error) → binding_refusal relations query roots ≡ Some why
binds_not relations query roots binding.NoSource why e b =
    (λ i. if b i then (if have_roots roots query.items then (if query_is_bound query && are_served relations query.items then None else Some refusal.Unbound) else Some refusal.Root) else Some refusal.NoSource) ∙ e
binds_not relations query roots binding.RootDiffers why e b =
    (λ i. if b.declared i then (if b.root i then (if query_is_bound query && are_served relations query.items then None else Some refusal.Unbound) else Some refusal.Root) else Some refusal.NoSource) ∙ e
binds_not relations query roots binding.Unbound why e b =
    (λ i. if b.declared i then (if b.root i then (if b.bound i then None else Some refusal.Unbound) else Some refusal.Root) else Some refusal.NoSource) ∙ e
binds_not relations query roots binding.OutOfMemory why e b = absurd cc

-- the subscription that a create makes
module _ (engine : EngineState) (statement : Statement) where
  abbrev this : Command
  this = Create statement

  -- the first refusal, by the tests of the code
  pub create_refusal : (taken odd late : Bool) (unbound : Option Refusal) → list_any (λ m. bytes_eq statement.name m.name) engine.subscriptions ≡ taken → binding_refusal engine.handed.relations statement.query (roots_in engine.store) ≡ unbound
      → is_at_odds (kind_in statement.action engine.handed.labels) statement.argument ≡ odd → is_expired (timed statement engine.clock) (start_of statement.start engine.clock) ≡ late
      → (h : History) → Follows engine h
      → first_refusal (language_of engine.handed) h this
      ≡ option_or (refused_if taken refusal.NameTaken) (option_or unbound (option_or (refused_if odd refusal.Action) (refused_if late refusal.Times)))
  create_refusal taken odd late unbound t u o l h s =
      λ i. option_or (refused_if ((pairwise_any (Keeps engine.handed h) (is_named statement.name) (λ m. bytes_eq statement.name m.name) (λ s m k. ap (bytes_eq statement.name) (sym k.name)) (live h) engine.subscriptions s.subscriptions ∙ t) i) refusal.NameTaken)
      (option_or ((ap (binding_refusal engine.handed.relations statement.query) (roots_are engine.store (sources h) s.sources) ∙ u) i)
      (option_or (refused_if (o i) refusal.Action)
      (refused_if ((ap (λ n. is_expired (timed statement n) (start_of statement.start n)) (sym s.clock) ∙ l) i) refusal.Times)))

  module _ (out : List ℕ) (result : Result Answered ApplyError) (new : EngineState) (same : new ≡ record engine { count = engine.count + 1 }) where
    pub create_taken : result ≡ Err (Refused refusal.NameTaken) → list_any (λ m. bytes_eq statement.name m.name) engine.subscriptions ≡ true → Applies engine this out result new out
    create_taken is taken = refuses engine this refusal.NameTaken out result new out is same refl (create_refusal true _ _ _ taken refl refl refl)

    pub create_odd : result ≡ Err (Refused refusal.Action) → list_any (λ m. bytes_eq statement.name m.name) engine.subscriptions ≡ false → (query : NormalQuery) → Binds engine.handed.relations statement.query (roots_in engine.store) (Ok query)
        → is_at_odds (kind_in statement.action engine.handed.labels) statement.argument ≡ true → Applies engine this out result new out
    create_odd is free query binds odd = refuses engine this refusal.Action out result new out is same refl (create_refusal false true _ None free (binds_freely engine.handed.relations statement.query (roots_in engine.store) query binds) odd refl)

    pub create_late : result ≡ Err (Refused refusal.Times) → list_any (λ m. bytes_eq statement.name m.name) engine.subscriptions ≡ false → (query : NormalQuery) → Binds engine.handed.relations statement.query (roots_in engine.store) (Ok query)
        → is_at_odds (kind_in statement.action engine.handed.labels) statement.argument ≡ false → is_expired (timed statement engine.clock) (start_of statement.start engine.clock) ≡ true → Applies engine this out result new out
    create_late is free query binds fits late =
        refuses engine this refusal.Times out result new out is same refl (create_refusal false false true None free (binds_freely engine.handed.relations statement.query (roots_in engine.store) query binds) fits late)

  pub create_unbound : (out : List ℕ) (result : Result Answered ApplyError) (new : EngineState) (error : BindError) → IfSome (query_refusal error) (λ _. new ≡ record engine { count = engine.count + 1 }) → IfNone (query_refusal error) (new ≡ engine)
      → result ≡ Err (refused_query error) → list_any (λ m. bytes_eq statement.name m.name) engine.subscriptions ≡ false → Binds engine.handed.relations statement.query (roots_in engine.store) (Err error) → Applies engine this out result new out
  create_unbound out result new error counted same is free binds = by (query_refusal error) refl counted same is
    where
      by : (o : Option Refusal) → query_refusal error ≡ o → IfSome o (λ _. new ≡ record engine { count = engine.count + 1 }) → IfNone o (new ≡ engine) → result ≡ Err (error_of o) → Applies engine this out result new out
      by None e counted same is = gives_up engine this out result new out is same (take-length out)
      by (Some why) e counted same is = refuses engine this why out result new out is counted refl (create_refusal false _ _ (Some why) free (binds_not engine.handed.relations statement.query (roots_in engine.store) error why e binds) refl refl)

-- those that are live already do not fire at a create
old_quiet : (statement : Statement) (h : History) (s : Subscription) → s.install ≤ creates_of h → fires s h (Create statement) ≡ None
old_quiet statement h s before =
    let off : is_new s h ≡ false = grind (arith, nat_tests, before) in
    λ i. if off i && s.start == now h then Some (now h) else None

-- the new one fires where it starts now
new_fires : (statement : Statement) (h : History) → fires (created statement h) h (Create statement) ≡ (if start_of statement.start (now h) == now h then Some (now h) else None)
new_fires statement h =
    let on : is_new (created statement h) h ≡ true = grind (arith, nat_tests) in
    λ i. if on i && start_of statement.start (now h) == now h then Some (now h) else None

-- the instant at which a create fires a subscription: the new one where it has started
abbrev pub created_instant : ℕ → ℕ → Kept → Option ℕ
created_instant clock install m = if m.install == install && nat_le m.timing.start clock then Some clock else None

-- the new subscription is found behind the others
found_last : (ms : List Kept) (m : Kept) → AllByRecursion (λ n. n.install < m.install) ms → subscription_of m.install (ms ++ m ∷ []) ≡ Some m
found_last [] m h = found_first m []
found_last (x ∷ ms) m h = found_behind x (ms ++ m ∷ []) m.install h.0 ∙ found_last ms m h.1

quiet_one : (clock install : ℕ) (m : Kept) → m.install < install → created_instant clock install m ≡ None
quiet_one clock install m less =
    let other : (m.install == install) ≡ false = grind (arith, nat_tests, less) in
    λ i. if other i && nat_le m.timing.start clock then Some clock else None

quiet_all : (clock install : ℕ) (ms : List Kept) → AllByRecursion (λ n. n.install < install) ms → firings_of (created_instant clock install) ms ≡ []
quiet_all clock install [] h = refl
quiet_all clock install (m ∷ ms) h = λ i. firing_at m.install (quiet_one clock install m h.0 i) ++ quiet_all clock install ms h.1 i

own_instant : (clock : ℕ) (m : Kept) → created_instant clock m.install m ≡ (if nat_le m.timing.start clock then Some clock else None)
own_instant clock m =
    let same : (m.install == m.install) ≡ true = grind (arith, nat_tests) in
    λ i. if same i && nat_le m.timing.start clock then Some clock else None

-- so the firings that the code makes are those of the subscriptions
pub created_firings : (clock : ℕ) (ms : List Kept) (m : Kept) → AllByRecursion (λ n. n.install < m.install) ms → flat_map (started_at clock (ms ++ m ∷ [])) (m.install ∷ []) ≡ firings_of (created_instant clock m.install) (ms ++ m ∷ [])
created_firings clock ms m less =
    append-nil (started_at clock (ms ++ m ∷ []) m.install)
    ∙ (λ i. if has_started clock (found_last ms m less i) then record { instant = clock; install = m.install } ∷ [] else [])
    ∙ by (nat_le m.timing.start clock)
    ∙ ap (firing_at m.install) (sym (own_instant clock m))
    ∙ sym (flat_map_append (λ (n : Kept). firing_at n.install (created_instant clock m.install n)) ms (m ∷ [])
    ∙ (λ i. quiet_all clock m.install ms less i ++ (firing_at m.install (created_instant clock m.install m) ++ []))
    ∙ append-nil (firing_at m.install (created_instant clock m.install m)))
  where
    by : (b : Bool) → (if b then record { instant = clock; install = m.install } ∷ [] else []) ≡ firing_at m.install (if b then Some clock else None)
    by true = refl
    by false = refl

-- no counts are kept under an install number above all others
none_above : (most : ℕ) (ms : List Kept) → InstallsAreUpTo most ms → list_any (λ m. m.distinct && nat_eq m.install (most + 1)) ms ≡ false
none_above most [] few = refl
none_above most (m ∷ ms) few =
    let le = few.0 in
    let other : nat_eq m.install (most + 1) ≡ false = grind (arith, nat_tests, le) in
    (λ i. m.distinct && other i || none_above most ms few.1 i) ∙ elim m.distinct as (λ t. (t && false || false) ≡ false) [ true ↦ refl | false ↦ refl ]

-- the new subscription is kept, as it has not fired
keeps_new : (engine : EngineState) (statement : Statement) (query : NormalQuery) (action : ℕ) (file : FileId)
    → IsWhole statement → Binds engine.handed.relations statement.query (roots_in engine.store) (Ok query) → kind_at engine.handed.labels action ≡ kind_in statement.action engine.handed.labels → name_at engine.handed.labels action ≡ Some statement.action
    → (h : History) → Follows engine h → Keeps engine.handed h (created statement h) (new_subscription statement query (alike (bare_of query) engine.subscriptions) (timed statement engine.clock) action engine.creates file)
keeps_new engine statement query action file whole binds kind named h s = record {
  name = refl;
  sources = refl;
  whole = whole;
  bound = binds.bound;
  query = binds.answer;
  bare = refl;
  choice = ap (choice_of query) (new_alike engine h s statement query binds.answer);
  distinct = refl;
  timing = λ i. timed statement (s.clock i);
  kind = kind;
  action = named;
  argument = refl;
  install = λ i. s.creates i + 1;
  marked = unmarked;
}
  where
    later : creates_of h < creates_of h + 1
    later = omega arith

    unmarked : None ≡ noted (created statement h) h
    unmarked = both (statement.every == 0) ∙ (λ i. if statement.every == 0 then sym (never_first (created statement h) h later) i else sym (never (created statement h) h later) i)
      where
        both : (b : Bool) → ◌≡◌ {A = Option ℕ} None (if b then None else None)
        both true = refl
        both false = refl

module _ (engine : EngineState) (table : TableState) (statement : Statement) (query : NormalQuery) (action : ℕ) (file : FileId)
    (whole : IsWhole statement) (binds : Binds engine.handed.relations statement.query (roots_in engine.store) (Ok query)) (kind : kind_at engine.handed.labels action ≡ kind_in statement.action engine.handed.labels) (named : name_at engine.handed.labels action ≡ Some statement.action)
    (done : IsInstalled (plan_new engine query) engine.table table file.0) (number : engine.table.number ≡ engine.store.changes) (fits : Fits engine.table.number (world_in engine.store) table.files) (upto : AreUpTo engine.store.changes table.files) where
  abbrev made : Kept
  made = new_subscription statement query (alike (bare_of query) engine.subscriptions) (timed statement engine.clock) action engine.creates file

  abbrev all : List Kept
  all = engine.subscriptions ++ made ∷ []

  abbrev instant : Kept → Option ℕ
  instant = created_instant engine.clock made.install

  -- the subscriptions behind the create
  abbrev pub created_subscriptions : List Kept
  created_subscriptions = map (λ m. fired_if (is_some (created_instant engine.clock (engine.creates + 1) m)) engine.store m) (engine.subscriptions ++ new_subscription statement query (alike (bare_of query) engine.subscriptions) (timed statement engine.clock) action engine.creates file ∷ [])

  abbrev pub created_list : List NoticeText
  created_list = told_of engine.handed engine.store table.files engine.distinct (created_instant engine.clock (engine.creates + 1)) (engine.subscriptions ++ new_subscription statement query (alike (bare_of query) engine.subscriptions) (timed statement engine.clock) action engine.creates file ∷ [])

  -- the counts behind the create are right
  abbrev pub AreCountedBehind : DistinctTable → Type 0
  AreCountedBehind distinct' = (h : History) → Follows engine h → AreContents table.files (Create statement ∷ h) → AreUpTo (changes (Create statement ∷ h)) table.files → AreCounted engine.handed.relations (Create statement ∷ h) distinct'

  module _ (can : AllByRecursion (CanTell engine.handed engine.store table) all) (few : InstallsAreUpTo engine.creates engine.subscriptions) (keeps : KeepsCounts engine.subscriptions engine.distinct) (h : History) (s : Follows engine h) where
    abbrev own : Subscription
    own = created statement h

    same_changes : engine.store.changes ≡ changes (Create statement ∷ h)
    same_changes = s.changes ∙ sym (zero-add (changes h))

    below : AllByRecursion (λ n. n.install < made.install) engine.subscriptions
    below = each_more (λ (n : Kept). n.install ≤ engine.creates) (λ (n : Kept). n.install < made.install) (λ n le. let l : n.install < engine.creates + 1 = omega (arith, le) in l) engine.subscriptions few

    start_is : (o : Option ℕ) → nat_le (start_of o engine.clock) engine.clock ≡ (start_of o engine.clock == engine.clock)
    start_is None = let a : nat_le engine.clock engine.clock ≡ true = grind (arith, nat_tests) in let b : (engine.clock == engine.clock) ≡ true = grind (arith, nat_tests) in a ∙ sym b
    start_is (Some written) = grind (arith, nat_tests)

    own_fires : instant made ≡ fires own h (Create statement)
    own_fires =
        own_instant engine.clock made ∙ (λ i. if start_is statement.start i then Some engine.clock else None)
        ∙ (λ i. if start_of statement.start (s.clock i) == s.clock i then Some (s.clock i) else None)
        ∙ sym (new_fires statement h)

    own_first : IsFirst own h (Create statement)
    own_first at fired based = never_first own h (let l : creates_of h < creates_of h + 1 = omega arith in l)

    old_first : (sub : Subscription) → sub.install ≤ creates_of h → IsFirst sub h (Create statement)
    old_first sub before at fired based = absurd (let bad : Some at ≡ None = sym fired ∙ old_quiet statement h sub before in cc)

    -- each subscription fires where its subscription does
    olds_fire : (subs : List Subscription) (ms : List Kept) → Pairwise (Keeps engine.handed h) subs ms → Installed h subs → AllByRecursion (λ n. n.install < made.install) ms
        → Pairwise (λ s m. Keeps engine.handed h s m × (instant m ≡ fires s h (Create statement))) subs ms
    olds_fire [] [] p i b = tt
    olds_fire [] (m ∷ ms) p i b = absurd p
    olds_fire (x ∷ subs) [] p i b = absurd p
    olds_fire (x ∷ subs) (m ∷ ms) p i b = ((p.0, quiet_one engine.clock made.install m b.0 ∙ sym (old_quiet statement h x i.0)), olds_fire subs ms p.1 i.1 b.1)

    own_keeps : Keeps engine.handed h own made
    own_keeps = keeps_new engine statement query action file whole binds kind named h s

    pub firing : Pairwise (λ s m. Keeps engine.handed h s m × (created_instant engine.clock (engine.creates + 1) m ≡ fires s h (Create statement))) (live h ++ created statement h ∷ [])
        (engine.subscriptions ++ new_subscription statement query (alike (bare_of query) engine.subscriptions) (timed statement engine.clock) action engine.creates file ∷ [])
    firing = pairwise_push (λ s m. Keeps engine.handed h s m × (instant m ≡ fires s h (Create statement))) (live h) engine.subscriptions own made (olds_fire (live h) engine.subscriptions s.subscriptions (installed h) below) (own_keeps, own_fires)

    olds_agree : (subs : List Subscription) (ms : List Kept) → Pairwise (Keeps engine.handed h) subs ms → Installed h subs → AllByRecursion (λ n. n.install < made.install) ms
        → Pairwise (λ s m. Keeps engine.handed h s m × (Agrees (is_some (instant m)) (fires s h (Create statement)) × IsFirst s h (Create statement))) subs ms
    olds_agree [] [] p i b = tt
    olds_agree [] (m ∷ ms) p i b = absurd p
    olds_agree (x ∷ subs) [] p i b = absurd p
    olds_agree (x ∷ subs) (m ∷ ms) p i b = ((p.0, (ap is_some (quiet_one engine.clock made.install m b.0 ∙ sym (old_quiet statement h x i.0)), old_first x i.0)), olds_agree subs ms p.1 i.1 b.1)

    kept : Pairwise (Keeps engine.handed (Create statement ∷ h)) (live h ++ own ∷ []) created_subscriptions
    kept = keep_all engine.handed h (Create statement) engine.store same_changes (λ m. is_some (instant m)) (live h ++ own ∷ []) all (installed (Create statement ∷ h))
        (pairwise_push (λ s m. Keeps engine.handed h s m × (Agrees (is_some (instant m)) (fires s h (Create statement)) × IsFirst s h (Create statement))) (live h) engine.subscriptions own made
        (olds_agree (live h) engine.subscriptions s.subscriptions (installed h) below) (own_keeps, (ap is_some own_fires, own_first)))

    -- it has no counts, as it has no mark
    pub own_counted : IsCounted engine.handed.relations h engine.distinct (created statement h)
    own_counted is key =
        (λ i. stands (counts_at engine.distinct (sym s.creates i + 1)) key)
        ∙ ap (λ (counts : ByBytes ℕ). stands counts key) (keeps (engine.creates + 1) (none_above engine.creates engine.subscriptions few))
        ∙ ap (λ (o : Option ℕ). unwrap_or o 0) (get-empty (slice_cmp nat_cmp) key)
        ∙ ap (λ (o : Option ℕ). count_in key (all_at engine.handed.relations statement.query h o)) (sym (never own h (let l : creates_of h < creates_of h + 1 = omega arith in l)))

    upto_now : AreUpTo (changes (Create statement ∷ h)) table.files
    upto_now = subst (λ n. AreUpTo n table.files) same_changes upto

    contents_are : AreContents table.files (Create statement ∷ h)
    contents_are = contents_installed (plan_new engine query) engine.table table file.0 h (Create statement) done (number ∙ s.changes) (zero-add (changes h))
        (subst (λ n. Fits n (world (sources (Create statement ∷ h))) table.files) (number ∙ s.changes) (subst (λ w. Fits engine.table.number w table.files) (sym (world_is engine.store (sources h) s.sources)) fits)) s.contents

    -- the engine with the new subscription behind the others, and its counts
    pub create_follows : (distinct' : DistinctTable) → AreCountedBehind distinct'
        → Follows (record engine { count = engine.count + 1; creates = engine.creates + 1; subscriptions = created_subscriptions; table = table; distinct = distinct' }) (Create statement ∷ h)
    create_follows distinct' counted = record {
      sources = s.sources;
      last = s.last;
      changes = same_changes;
      clock = s.clock;
      creates = let c = s.creates in omega (arith, c);
      subscriptions = kept;
      contents = contents_are;
      counted = counted h s contents_are upto_now;
      rising = rises_quietly h (Create statement) refl s.rising;
    }

    list_is : created_list ≡ map (noticed engine.handed h (Create statement)) (firings h (Create statement))
    list_is = told_list engine.handed h (Create statement) engine.store table.files engine.distinct instant (live h ++ own ∷ []) all
        (tells_each engine.handed h (Create statement) engine.store table engine.distinct s.last s.rising contents_are upto_now instant (live h ++ own ∷ []) all firing can (each_push (IsCounted engine.handed.relations h engine.distinct) (live h) own s.counted own_counted))

    olds_quiet : (ms : List Kept) → AllByRecursion (λ n. n.install < made.install) ms → told_of engine.handed engine.store table.files engine.distinct instant ms ≡ []
    olds_quiet [] b = refl
    olds_quiet (m ∷ ms) b = λ i. notice_texts engine.handed engine.store table.files engine.distinct m (quiet_one engine.clock made.install m b.0 i) ++ olds_quiet ms b.1 i

    -- it alone is told
    one_told : created_list ≡ notice_texts engine.handed engine.store table.files engine.distinct made (instant made)
    one_told =
        flat_map_append (λ (m : Kept). notice_texts engine.handed engine.store table.files engine.distinct m (instant m)) engine.subscriptions (made ∷ [])
        ∙ (λ i. olds_quiet engine.subscriptions below i ++ (notice_texts engine.handed engine.store table.files engine.distinct made (instant made) ++ []))
        ∙ append-nil (notice_texts engine.handed engine.store table.files engine.distinct made (instant made))

    in_order : ordered_by (λ (t : NoticeText). t.firing) created_list ≡ created_list
    in_order = ap (ordered_by (λ (t : NoticeText). t.firing)) one_told ∙ by (instant made) ∙ sym one_told
      where
        by : (o : Option ℕ) → ordered_by (λ (t : NoticeText). t.firing) (notice_texts engine.handed engine.store table.files engine.distinct made o) ≡ notice_texts engine.handed engine.store table.files engine.distinct made o
        by None = refl
        by (Some at) = refl

    pub create_text : flat_map (λ (t : NoticeText). t.text) created_list ≡ notices (language_of engine.handed) h (Create statement)
    create_text = ap (flat_map (λ (t : NoticeText). t.text)) (sym in_order) ∙ told_text_is engine.handed h (Create statement) created_list list_is

    pub create_spans : (from : ℕ) → told_spans from created_list ≡ spans (language_of engine.handed) h (Create statement) from
    create_spans from = ap (told_spans from) (sym in_order) ∙ told_spans_are engine.handed h (Create statement) created_list list_is from

  -- a create that is accepted
  pub create_accepted : is_at_odds (kind_in statement.action engine.handed.labels) statement.argument ≡ false → list_any (λ m. bytes_eq statement.name m.name) engine.subscriptions ≡ false → is_expired (timed statement engine.clock) (start_of statement.start engine.clock) ≡ false
      → AllByRecursion (CanTell engine.handed engine.store table) all → InstallsAreUpTo engine.creates engine.subscriptions → KeepsCounts engine.subscriptions engine.distinct
      → (distinct' : DistinctTable) → AreCountedBehind distinct'
      → (out line out' : List ℕ) (applied : Answered) (left : List Kept) → line ≡ out ++ ok_text (engine.count + 1)
      → out' ≡ line ++ flat_map (λ (t : NoticeText). t.text) created_list
      → applied.from ≡ length line → applied.to ≡ length out' → applied.spans ≡ told_spans (length line) created_list → left ≡ created_subscriptions
      → Applies engine (Create statement) out (Ok applied) (record engine { count = engine.count + 1; creates = engine.creates + 1; subscriptions = left; table = table; distinct = distinct' }) out'
  create_accepted fitting free timely can few keeps distinct' counted out line out' applied left first rest from to places is =
      let text = flat_map (λ (t : NoticeText). t.text) created_list in
      let whole_text : out' ≡ (out ++ ok_text (engine.count + 1)) ++ text = rest ∙ ap (λ (l : List ℕ). l ++ text) first in
      subst (λ (ms : List Kept). Applies engine (Create statement) out (Ok applied) (record engine { count = engine.count + 1; creates = engine.creates + 1; subscriptions = ms; table = table; distinct = distinct' }) out') (sym is)
      (accepts engine (Create statement) out applied (record engine { count = engine.count + 1; creates = engine.creates + 1; subscriptions = created_subscriptions; table = table; distinct = distinct' }) out' text []
      (record {
        accepted = λ h s. create_refusal engine statement false false false None free (binds_freely engine.handed.relations statement.query (roots_in engine.store) query binds) fitting timely h s;
        follows = λ h s. create_follows can few keeps h s distinct' counted;
        tells = λ h s. create_text can few keeps h s;
        stand = λ h s. places ∙ create_spans can few keeps h s (length line) ∙ ap (spans (language_of engine.handed) h (Create statement)) (sym from);
        ends = λ h s. refl;
        counted = refl;
        named = refl;
      })
      (whole_text ∙ ap (λ (l : List ℕ). (out ++ ok_text (engine.count + 1)) ++ l) (sym (append-nil text)))
      (from ∙ ap length first)
      (to ∙ ap length whole_text))

-- the new install number is above all others
pub above_all : (most : ℕ) (subscriptions : List Kept) (install : ℕ) → InstallsAreUpTo most subscriptions → install ≡ most + 1 → AllByRecursion (λ m. m.install < install) subscriptions
above_all most subscriptions install h e = each_more (λ (m : Kept). m.install ≤ most) (λ (m : Kept). m.install < install) (λ m le. (let l : m.install < install = omega (arith, le, e) in l)) subscriptions h
