-- What a command costs is at most its work.
use Rattle.std.proofs.Common.{◌≡◌, ◌≢◌, ℕ, zero, suc, ◌+◌, ◌≤◌, true, false, cond, List, [], ◌∷◌, ◌++◌, length, map, ◌⊎◌, inl, inr, refl, sym, ◌∙◌, ap, subst, arith, true≢false}
use Rattle.std.specs.Prelude.{Option, Some, None, Ok, slice_get}
use Rattle.std.specs.FinMap.{get, entries, entries_sorted, get-entries, find, is_sorted}
use Rattle.std.specs.FinMap.Entries.{below_all}
use Rattle.std.specs.List.{AllByRecursion}
use Rattle.std.specs.Ordering.{nat_cmp, is_lt}
use Rattle.std.specs.Cmp.{unsigned_tied}
use Rattle.std.proofs.lemmas.Bool.{cases_eq, eq-eqb, ne_eqb}
use Rattle.ncq_base.specs.Counts.{total_by}
use Rattle.ncq_base.proofs.CountLaws.{total_by-congr}
use Rattle.ncq_base.proofs.Tests.{both_true}
use Rattle.ncq_base.proofs.Totals.{told, not_tied}
use Rattle.ncq_bind.specs.Bindings.{Binds, roots_in}
use Rattle.ncq_change.specs.Entries.{scans_of}
use Rattle.ncq_change.specs.Stores.{entries_in, world_in}
use Rattle.ncq_feed.specs.Feeds.{delta_by, feed_work, world_after}
use Rattle.ncq_group.specs.Installs.{NamesTheMissing, rows_of_all}
use Rattle.ncq_plan.specs.ExprLists.{IsIn}
use Rattle.ncq_plan.proofs.ExprListLaws.{without_one}
use Rattle.ncq_plan.specs.declared.expr.Expr.{Expr}
use Rattle.ncq_plan.specs.declared.query.NormalQuery.{NormalQuery}
use Rattle.ncq_plan.specs.Deltas.{delta_of}
use Rattle.ncq_plan.specs.Exprs.{World}
use Rattle.ncq_live.specs.Shares.{Shares}
use Rattle.ncq_script.specs.declared.command.Command.TheVariants.{Delta, Create}
use Rattle.ncq_shelf.specs.KeptFiles.{KeptFile, Files}
use Rattle.ncq_shelf.specs.Parts.{IsPart, IsPartOfOne}
use Rattle.ncq_shelf.specs.Stands.{IsGrounded}
use Rattle.ncq_shelf.proofs.CallerLemmas.{there}
use Rattle.ncq_source.specs.Changes.{after}
use Rattle.ncq_source.specs.Changes.Trial.{Good}
use Rattle.ncq_source.specs.ChangeStates.{entries_at}
use Rattle.ncq_source.specs.Sections.{are_known, batch_trial}
use Rattle.ncq_source.specs.Stores.{Source as Declared}
use Rattle.ncq_source.specs.StoreStates.{ArePortionsOf, FollowsPortion, IsAlike, IsCommitted, StoreState, holdings_of}
use Rattle.ncq_source.specs.declared.change.Entry.{Entry}
use Rattle.ncq_source.specs.declared.change.Portion.{Portion}
use Rattle.ncq_source.specs.declared.change.Section.{Section}
use Rattle.ncq_engine.specs.History.{History, Subscription, created, live, sources, with_sections, world}
use Rattle.ncq_engine.specs.Languages.{language_of}
use Rattle.ncq_engine.specs.Output.{first_refusal, sections_refusal, unless_refused}
use Rattle.ncq_engine.specs.Plannings.{plan_at}
use Rattle.ncq_engine.specs.Stands.{EngineState, Follows, content_of}
use Rattle.ncq_engine.specs.Works.{IsWorkUpTo, delta_rows, entries_for, made_rows}
use Rattle.ncq_engine.proofs.ChangeAnswers.{mid_engine}
use Rattle.ncq_engine.proofs.ChangeLaws.{good_allowed}
use Rattle.ncq_engine.proofs.ClockAnswers.{counted_engine}
use Rattle.ncq_engine.proofs.CreateAnswers.{IsRead}
use Rattle.ncq_engine.proofs.CreateLaws.{binds_freely, create_refusal}
use Rattle.ncq_engine.proofs.InvariantLaws.{world_alike}
use Rattle.ncq_engine.proofs.Moved.{entries_are, moved, portions_alike, same_holdings, world_committed}
use Rattle.ncq_engine.proofs.PartLaws.{plans_are}
use Rattle.ncq_engine.proofs.PlanningLaws.{new_plan_is, plan_new}
use Rattle.ncq_engine.proofs.Places.{room_is_no_content}
use Rattle.ncq_engine.proofs.Worlds.{world_is}
use Rattle.ncq_xmlql.specs.declared.model.Statement.{Statement}

-- a number below another is not that other
below_differs : (a b : ℕ) → is_lt (nat_cmp a b) ≡ true → a ≢ b
below_differs a b low same = true≢false (sym (eq-eqb a b same) ∙ sym (unsigned_tied a b) ∙ not_tied (nat_cmp a b) low)

find_first : (e : ℕ × KeptFile) (es : List (ℕ × KeptFile)) → find nat_cmp e.0 (e ∷ es) ≡ Some e.1
find_first e es = ap (λ b. cond b (Some e.1) (find nat_cmp e.0 es)) (unsigned_tied e.0 e.0 ∙ eq-eqb e.0 e.0 refl)

find_behind : (number : ℕ) (e : ℕ × KeptFile) (es : List (ℕ × KeptFile)) → number ≢ e.0 → find nat_cmp number (e ∷ es) ≡ find nat_cmp number es
find_behind number e es differs = ap (λ b. cond b (Some e.1) (find nat_cmp number es)) (unsigned_tied number e.0 ∙ ne_eqb number e.0 differs)

-- a number below all others is not among them
find_none : (number : ℕ) (es : List (ℕ × KeptFile)) → below_all nat_cmp number es ≡ true → find nat_cmp number es ≡ None
find_none number [] low = refl
find_none number (e ∷ es) low =
    let b = both_true (is_lt (nat_cmp number e.0)) (below_all nat_cmp number es) low in
    find_behind number e es (below_differs number e.0 b.0) ∙ find_none number es b.1

-- the entries of files, each found by its number, have distinct expressions
module _ (files : Files) (grounded : IsGrounded files) where
  abbrev pub IsThere : ℕ × KeptFile → Type 0
  IsThere entry = get files entry.0 ≡ Some entry.1

  pub all_there : (es : List (ℕ × KeptFile)) → is_sorted nat_cmp es ≡ true → ((number : ℕ) (file : KeptFile) → find nat_cmp number es ≡ Some file → get files number ≡ Some file) → AllByRecursion IsThere es
  all_there [] sorted is = tt
  all_there (e ∷ es) sorted is =
      let b = both_true (below_all nat_cmp e.0 es) (is_sorted nat_cmp es) sorted in
      (is e.0 e.1 (find_first e es), all_there es b.1 (λ number file at. is number file (later number file at b.0 (cases_eq number e.0))))
    where
      later : (number : ℕ) (file : KeptFile) → find nat_cmp number es ≡ Some file → below_all nat_cmp e.0 es ≡ true → (number ≡ e.0) ⊎ (number ≡ e.0 → ⊥) → find nat_cmp number (e ∷ es) ≡ Some file
      later number file at low (inl same) = absurd (there at (ap (λ n. find nat_cmp n es) same ∙ find_none e.0 es low))
      later number file at low (inr differs) = find_behind number e es differs ∙ at

  -- a file has not the expression of one with a greater number
  pub apart_exprs : (e : ℕ × KeptFile) (es : List (ℕ × KeptFile)) → IsThere e → below_all nat_cmp e.0 es ≡ true → AllByRecursion IsThere es → AllByRecursion (λ x. e.1.expr ≢ x.1.expr) es
  apart_exprs e [] at low all = tt
  apart_exprs e (x ∷ es) at low all =
      let b = both_true (is_lt (nat_cmp e.0 x.0)) (below_all nat_cmp e.0 es) low in (
        λ same. below_differs e.0 x.0 b.0 (grounded.distinct e.0 x.0 e.1.expr (record { file = e.1; at = at; of = refl }) (record { file = x.1; at = all.0; of = sym same })),
        apart_exprs e es at b.1 all.1,
      )

  module _ (f : Expr → ℕ) where
    abbrev AreNamed : List Expr → List (ℕ × KeptFile) → Type 0
    AreNamed list es = AllByRecursion (λ e. IsIn e.1.expr list) es

    still_named : (expr : Expr) (es : List (ℕ × KeptFile)) (list rest : List Expr) → ((other : Expr) → IsIn other list → expr ≢ other → IsIn other rest) → AllByRecursion (λ e. expr ≢ e.1.expr) es → AreNamed list es → AreNamed rest es
    still_named expr [] list rest less apart all = tt
    still_named expr (e ∷ es) list rest less apart all = (less e.1.expr all.0 apart.0, still_named expr es list rest less apart.1 all.1)

    apart_total : (es : List (ℕ × KeptFile)) (list : List Expr) → is_sorted nat_cmp es ≡ true → AllByRecursion IsThere es → AreNamed list es → total_by (λ e. f e.1.expr) es ≤ total_by f list
    apart_total [] list sorted at named = omega arith
    apart_total (e ∷ es) list sorted at named =
        let b = both_true (below_all nat_cmp e.0 es) (is_sorted nat_cmp es) sorted in
        let split = without_one f e.1.expr list named.0 in
        let rest = apart_total es split.0 b.1 at.1 (still_named e.1.expr es list split.0 split.2 (apart_exprs e es at.0 b.0 at.1) named.1) in
        let total = split.1 in
        omega arith

  all_named : (exprs : List Expr) → ((number : ℕ) (file : KeptFile) → get files number ≡ Some file → IsIn file.expr exprs) → (es : List (ℕ × KeptFile)) → AllByRecursion IsThere es → AllByRecursion (λ e. IsIn e.1.expr exprs) es
  all_named exprs names [] at = tt
  all_named exprs names (e ∷ es) at = (names e.0 e.1 at.0, all_named exprs names es at.1)

-- Files that share no expression weigh, together, at most what any list weighs that names the
-- expression of each.
pub work_named : (files : Files) → IsGrounded files → (f : Expr → ℕ) (exprs : List Expr) → ((number : ℕ) (file : KeptFile) → get files number ≡ Some file → IsIn file.expr exprs)
    → total_by (λ entry. f entry.1.expr) (entries files) ≤ total_by f exprs
work_named files grounded f exprs names =
    let sorted : is_sorted nat_cmp (entries files) ≡ true = told _ (entries_sorted files) in
    let at = all_there files grounded (entries files) sorted (λ number file found. get-entries files number ∙ found) in
    apart_total files grounded f (entries files) exprs sorted at (all_named files grounded exprs names (entries files) at)

-- a source as the commit would leave it
abbrev followed : ℕ → Declared → Option (List Entry) → Declared
followed number d None = d
followed number d (Some entries) = record d { elements = after d.elements entries; last = number }

followed_is : (number : ℕ) (d : Declared) (o : Option (List Entry)) → FollowsPortion d (followed number d o) o number
followed_is number d None = refl
followed_is number d (Some entries) = record { name = refl; root = refl; key = refl; elements = refl; last = refl }

-- the sources as the commit would leave them, the first of them at this place
abbrev all_followed : ℕ → List Portion → ℕ → List Declared → List Declared
all_followed number change at [] = []
all_followed number change at (d ∷ all) = followed number d (entries_at at change) ∷ all_followed number change (suc at) all

as_many_followed : (number : ℕ) (change : List Portion) (at : ℕ) (all : List Declared) → length (all_followed number change at all) ≡ length all
as_many_followed number change at [] = refl
as_many_followed number change at (d ∷ all) = ap suc (as_many_followed number change (suc at) all)

followed_at : (number : ℕ) (change : List Portion) (first : ℕ) (all : List Declared) (at : ℕ) (d : Declared) → slice_get all at ≡ Some d
    → slice_get (all_followed number change first all) at ≡ Some (followed number d (entries_at (first + at) change))
followed_at number change first [] at d here = absurd cc
followed_at number change first (x ∷ all) zero d here =
    let one : x ≡ d = cc in
    let n : first ≡ first + 0 = omega arith in
    λ i. Some (followed number (one i) (entries_at (n i) change))
followed_at number change first (x ∷ all) (suc at) d here =
    let n : suc first + at ≡ first + suc at = omega arith in
    followed_at number change (suc first) all at d here ∙ (λ i. Some (followed number d (entries_at (n i) change)))

-- a change that was prepared from a store, and is fed from that store with room
module _ (e : EngineState) (ready : StoreState) (changed : List Section) (change : List Portion) (alike : IsAlike e.store ready)
    (known : are_known (holdings_of e.store) changed ≡ true) (tried : batch_trial 1 (holdings_of e.store) changed ≡ Good tt)
    (prepares : ArePortionsOf e.store changed change) where
  made : ArePortionsOf ready changed change
  made = portions_alike e.store ready alike changed change prepares

  -- the store as the commit would leave it
  abbrev committed_store : StoreState
  committed_store = record { sources = all_followed (ready.changes + 1) change 0 ready.sources; changes = ready.changes + 1 }

  committed : IsCommitted ready change committed_store
  committed = record {
    changes = refl;
    sources = record {
      count = as_many_followed (ready.changes + 1) change 0 ready.sources;
      each = λ at d here.
          let n : 0 + at ≡ at = omega arith in
          (followed (ready.changes + 1) d (entries_at at change), followed_at (ready.changes + 1) change 0 ready.sources at d here ∙ (λ i. Some (followed (ready.changes + 1) d (entries_at (n i) change))), followed_is (ready.changes + 1) d (entries_at at change));
    };
  }

  module _ (h : History) (s : Follows e h) where
    ready_sources : map content_of ready.sources ≡ sources h
    ready_sources = room_is_no_content e.store.sources ready.sources alike.sources ∙ s.sources

    allowed : first_refusal (language_of e.handed) h (Delta changed) ≡ None
    allowed =
        ap (sections_refusal changed) (same_holdings e.store (sources h) s.sources)
        ∙ good_allowed changed (holdings_of e.store) known tried

    world_before : world_in ready ≡ world (sources h)
    world_before = world_alike e.store ready alike.sources ∙ sym (world_is e.store (sources h) s.sources)

    world_behind : world_after ready change ≡ world (with_sections changed (sources h))
    world_behind =
        world_committed ready changed change made committed_store committed
        ∙ sym (world_is committed_store (with_sections changed (sources h)) (moved ready changed change made committed_store committed ∙ ap (with_sections changed) ready_sources))

    entries_same : entries_in ready change ≡ entries_for changed (sources h)
    entries_same = entries_are ready changed change made (sources h) ready_sources

    -- what the change makes of an expression is what the delta makes of it
    delta_is : (expr : Expr) → delta_by ready change expr ≡ delta_rows h changed expr
    delta_is expr = λ i. delta_of (world_before i) (world_behind i) (scans_of (entries_same i)) expr

    -- To feed an accepted change to the files costs at most the work of the delta: each file has
    -- the expression of a part of a live subscription's plan.
    pub change_cost : Shares e.subscriptions e.table → (bound : ℕ) → IsWorkUpTo (language_of e.handed) h (Delta changed) bound → feed_work ready change e.table.files ≤ bound
    change_cost shares bound work =
        let named : feed_work ready change e.table.files ≤ total_by (λ expr. length (delta_by ready change expr)) work.0 =
        work_named e.table.files shares.facts.grounded (λ expr. length (delta_by ready change expr)) work.0 (λ number file at.
        work.1 file.expr (subst (IsPartOfOne file.expr) (plans_are e.handed h (live h) e.subscriptions s.subscriptions) ((shares.kept file.expr).0 (number, record { file = file; at = at; of = refl })))) in
        let same : total_by (λ expr. length (delta_by ready change expr)) work.0 ≡ made_rows h (Delta changed) work.0 = total_by-congr _ _ (λ expr. ap length (delta_is expr)) work.0 in
        let is : bound ≡ made_rows h (Delta changed) work.0 = work.2 ∙ (λ i. unless_refused 0 (allowed i) (made_rows h (Delta changed) work.0)) in
        omega (arith, named, same, is)

    -- The same by the names of the code: the steps that feeding may take, from the store with room
    -- and the files of the counted engine, are within the work of the delta.
    pub change_steps : Shares e.subscriptions e.table → (inside : EngineState) → inside ≡ mid_engine e ready → (bound : ℕ) → IsWorkUpTo (language_of e.handed) h (Delta changed) bound
        → (old new : ℕ) → new ≤ old + feed_work inside.store change inside.table.files → new ≤ old + bound
    change_steps shares inside is bound work old new steps =
        let few : feed_work inside.store change inside.table.files ≤ bound = subst (λ (x : EngineState). feed_work x.store change x.table.files ≤ bound) (sym is) (change_cost shares bound work) in
        omega (arith, few, steps)

-- a part of the last one's plan is a part of one
part_of_last : (plan : Subscription → Expr) (part : Expr) (last : Subscription) (subs : List Subscription) → IsPart part (plan last) → IsPartOfOne part (map plan (subs ++ last ∷ []))
part_of_last plan part last [] is = inl is
part_of_last plan part last (s ∷ subs) is = inr (part_of_last plan part last subs is)

-- To install the plan of an accepted create costs at most the work of the create: there is a list
-- of expressions that names each part of the plan without a file, and its rows are within the
-- work. A part without a file is no part of a live subscription's plan.
pub create_cost : (e : EngineState) (h : History) → Follows e h → Shares e.subscriptions e.table → (statement : Statement) (query : NormalQuery) → Binds e.handed.relations statement.query (roots_in e.store) (Ok query)
    → first_refusal (language_of e.handed) h (Create statement) ≡ None → (bound : ℕ) → IsWorkUpTo (language_of e.handed) h (Create statement) bound
    → (exprs : List Expr) × NamesTheMissing e.table.files (plan_new e query) exprs × (rows_of_all (world_in e.store) exprs ≤ bound)
create_cost e h s shares statement query binds none bound work = (
  work.0,
  λ part is missing. work.1 part (
    part_of_last (plan_at (language_of e.handed) (Create statement ∷ h)) part (created statement h) (live h) (subst (IsPart part) (new_plan_is e h s statement query binds.answer) is),
    λ one. missing ((shares.kept part).1 (subst (IsPartOfOne part) (sym (plans_are e.handed h (live h) e.subscriptions s.subscriptions)) one)),
  ),
  (let same : rows_of_all (world_in e.store) work.0 ≡ made_rows h (Create statement) work.0 = ap (λ (w : World). rows_of_all w work.0) (sym (world_is e.store (sources h) s.sources)) in
      let is : bound ≡ made_rows h (Create statement) work.0 = work.2 ∙ (λ i. unless_refused 0 (none i) (made_rows h (Create statement) work.0)) in
      omega (arith, same, is)),
)

-- A create whose statement was read, bound and found free, fitting and timely is not refused.
pub create_allowed : (e : EngineState) (h : History) → Follows e h → (statement : Statement) (query : NormalQuery) (action : ℕ) → IsRead e statement query action
    → first_refusal (language_of e.handed) h (Create statement) ≡ None
create_allowed e h s statement query action read =
    create_refusal e statement false false false None read.free (binds_freely e.handed.relations statement.query (roots_in e.store) query read.binds) read.fitting read.timely h s

-- The same by the names of the code: the steps that adding the new subscription may take are within the
-- work of the create.
pub create_steps : (e inside : EngineState) → inside ≡ counted_engine e → (h : History) → Follows e h → Shares e.subscriptions e.table
    → (statement : Statement) (query : NormalQuery) (action : ℕ) → IsRead e statement query action → (plan : Expr) → plan ≡ plan_new e query
    → (bound : ℕ) → IsWorkUpTo (language_of e.handed) h (Create statement) bound
    → (old new : ℕ) → ((missing : List Expr) → NamesTheMissing inside.table.files plan missing → new ≤ old + rows_of_all (world_in inside.store) missing) → new ≤ old + bound
create_steps e inside is h s shares statement query action read plan planned bound work old new steps =
    let cost = create_cost e h s shares statement query read.binds (create_allowed e h s statement query action read) bound work in
    let taken : new ≤ old + rows_of_all (world_in e.store) cost.0 =
    subst (λ (x : EngineState). new ≤ old + rows_of_all (world_in x.store) cost.0) is (steps cost.0 (subst (λ (x : EngineState). NamesTheMissing x.table.files plan cost.0) (sym is)
    (subst (λ (p : Expr). NamesTheMissing e.table.files p cost.0) (sym planned) cost.1))) in
    let few = cost.2 in
    omega (arith, taken, few)
