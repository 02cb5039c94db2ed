use Rattle.std.proofs.Common.{◌≡◌, ◌∙◌, ◌++◌, ◌+◌, ◌≤◌, ap, subst, sym, refl, arith, map, rules, length, List, ℕ, false}
use Rattle.std.proofs.Transfers.{starts_with_trans}
use Rattle.std.specs.Io.{StartsWith}
use Rattle.std.specs.Prelude.{Err, Ok, Result, nat_lt, IsSome}
use Rattle.std.specs.List.{filter, flat_map, AllByRecursion}
use Rattle.std.proofs.lemmas.Bool.Decides.{nat_tests}
use Rattle.ncq_book.specs.Books.{BookState, subscription_of, timing_of}
use Rattle.ncq_callback.specs.Labels.{handed_in}
use Rattle.ncq_event.specs.Calendars.{due_firings, expired_at}
use Rattle.ncq_event.specs.declared.firing.Firing.{Firing}
use Rattle.ncq_group.specs.Tables.{TableState}
use Rattle.ncq_live.specs.LiveTables.{LiveState}
use Rattle.ncq_script.specs.declared.command.Command.TheVariants.{Clock}
use Rattle.ncq_plan.specs.Relations.{relations}
use Rattle.ncq_engine.specs.declared.engine.ApplyError.{ApplyError}
use Rattle.ncq_engine.specs.declared.engine.ApplyError.TheVariants.{OutOfMemory}
use Rattle.ncq_engine.specs.declared.telling.Answered.{Answered}
use Rattle.ncq_engine.specs.Applies.{Applies}
use Rattle.ncq_engine.specs.Cached.{Grows, KeepsPairs}
use Rattle.ncq_engine.specs.Stands.{EngineState}
use Rattle.ncq_engine.specs.Tellings.{Awaits, IsLeftBy, expired_of, firing_text, is_news_at, noted_by}
use Rattle.ncq_engine.proofs.CachedAnswers.{awaits_as, grows_as, serve_as, keeps_counted, keeps_itself}
use Rattle.ncq_engine.proofs.ClockAnswers.{AreAsked, AreSettled, IsMoved, IsWritten, clock_can, moved_applies, moved_engine, moved_holds, moved_keeps, there, told_holds, told_keeps}
use Rattle.ncq_engine.proofs.EngineLaws.{applies_cached, applies_counts, gives_up}
use Rattle.ncq_engine.proofs.FiringLaws.{firing_spans}
use Rattle.ncq_engine.proofs.GivenUp.{given_up, with_parts}
use Rattle.ncq_engine.proofs.InvariantLaws.{Invariant, invariant_same, invariant_waits}
use Rattle.ncq_engine.proofs.KeptCounts.{AreRemoved}
use Rattle.ncq_engine.proofs.Views.{view_of}
use Rattle.ncq_engine.proofs.engine.Engine.move_clock.Given.{Over}
use Rattle.ncq_engine.proofs.engine.Engine.move_clock.Goals.{After-facts, After-facts-2, After-tell, After-write_expired, In_ok-write_expired}
use Rattle.ncq_engine.proofs.engine.Engine.move_clock.Goals as goal

-- who fires, and who expires
asked : (g : Over) (c : After-facts g) → AreAsked (view_of c.self.inside) c.args.instant c.in_ok-firings.firings (expired_at c.args.instant (map timing_of c.self.inside.live_table.subscriptions))
asked g c = record {
  holds = c.self.invariant;
  facts = c.facts.ensures.facts;
  due = c.as_slice.result.now;
  due_is = c.as_slice.ensures ∙ c.in_ok-due.ensures ∙ ap (λ (b : BookState). due_firings b.instant c.args.instant (map timing_of b.subscriptions)) c.book-2.ensures;
  kept_is = c.in_ok-firings.ensures ∙ ap (λ (b : BookState). filter (is_news_at c.self.inside.store b.subscriptions) c.as_slice.result.now) c.book-3.ensures;
  expired_is = refl;
}

-- what was written
written : (g : Over) (c : In_ok-write_expired g) → IsWritten (view_of c.self.inside) (handed_in c.args.handlers.now.items.items (λ h. h.name) (λ h. h.kind) c.args.handlers.now.predicates.items (λ p. p.name) (λ p. p.relation)) c.in_ok-firings.firings
    (expired_at c.args.instant (map timing_of c.self.inside.live_table.subscriptions)) c.write_accepted.new.out.items c.tell.new.out.items c.write_expired.new.out.items c.in_ok-spans.spans
written g c =
    let i = c.self.inside in
    let known = handed_in c.args.handlers.now.items.items (λ h. h.name) (λ h. h.kind) c.args.handlers.now.predicates.items (λ p. p.name) (λ p. p.relation) in
    let expired_is = c.as_slice-3.ensures ∙ c.in_ok-expired.ensures ∙ ap (λ (b : BookState). expired_at c.args.instant (map timing_of b.subscriptions)) c.book-4.ensures in
    record {
      text = subst (λ (fs : List Firing). c.tell.new.out.items ≡ c.write_accepted.new.out.items ++ flat_map (firing_text known i.store i.live_table.table.files i.distinct i.live_table.subscriptions) fs) c.as_slice-2.ensures c.in_ok-spans.ensures.text;
      lines = c.in_ok-write_expired.ensures.text ∙ (λ j. c.tell.new.out.items ++ flat_map (expired_of (c.book-5.ensures j).subscriptions) (expired_is j));
      stand = subst (λ (fs : List Firing). c.in_ok-spans.spans ≡ firing_spans known i.store i.live_table.table.files i.distinct i.live_table.subscriptions (length c.write_accepted.new.out.items) fs) c.as_slice-2.ensures c.in_ok-spans.ensures.spans;
    }

-- what was left
moved : (g : Over) (c : After-facts-2 g) → IsMoved (view_of c.self.inside) c.args.instant c.in_ok-firings.firings (expired_at c.args.instant (map timing_of c.self.inside.live_table.subscriptions)) c.take_all.new.live_table
moved g c =
    let i = c.self.inside in
    let expired_is = c.as_slice-5.ensures ∙ c.in_ok-expired.ensures ∙ ap (λ (b : BookState). expired_at c.args.instant (map timing_of b.subscriptions)) c.book-4.ensures in
    let noted : c.note_all.new.live_table ≡ record { table = i.live_table.table; subscriptions = noted_by i.store.changes c.in_ok-firings.firings i.live_table.subscriptions; instant = c.args.instant } =
    c.note_all.ensures ∙ (λ j. record { table = c.move_to.ensures.table j; subscriptions = noted_by (c.changes-changes.ensures j) (c.as_slice-4.ensures j) (c.move_to.ensures.subscriptions j); instant = c.in_ok-move_to.ensures.ok j }) in
    record {
      left = subst (λ (p : List ℕ × LiveState). IsLeftBy p.0 p.1 c.take_all.new.live_table) (λ j. (expired_is j, noted j)) c.take_all.ensures.left;
      owns = c.facts-2.ensures.live_table;
    }

-- what waited was settled, and those that expire lost their counts
settled : (g : Over) (c : After-facts-2 g) → AreSettled (view_of c.self.inside) c.in_ok-firings.firings (expired_at c.args.instant (map timing_of c.self.inside.live_table.subscriptions)) c.take_all.new.distinct
settled g c =
    let i = c.self.inside in
    let expired_is = c.as_slice-5.ensures ∙ c.in_ok-expired.ensures ∙ ap (λ (b : BookState). expired_at c.args.instant (map timing_of b.subscriptions)) c.book-4.ensures in
    record {
      between = c.settle.new.self;
      settles = record {
        waited = c.tell.new.distinct;
        same = c.tell.ensures.counts;
        waits = awaits_as (view_of c.self.inside).handed _ (ap (λ (e : EngineState). e.handed) c.self.view_is ∙ c.requires.handlers) i.store i.live_table c.in_ok-firings.firings c.tell.new.distinct
            (subst (λ (fs : List Firing). Awaits (relations c.args.handlers.now.predicates.items (λ p. p.name) (λ p. p.relation)) i.store i.live_table fs c.tell.new.distinct) c.as_slice-2.ensures c.in_ok-spans.ensures.waiting);
        settled = c.settle.ensures.counts;
      };
      removed = subst (λ (ns : List ℕ). AreRemoved ns c.settle.new.self c.take_all.new.distinct) expired_is c.take_all.ensures.counts;
    }

pub tell-requires-clause-can : goal.tell-requires-clause-can
tell-requires-clause-can g c =
    clock_can (asked g (goal.at.tell-requires-clause-can g c).After-facts) (handed_in c.args.handlers.now.items.items (λ h. h.name) (λ h. h.kind) c.args.handlers.now.predicates.items (λ p. p.name) (λ p. p.relation)) (ap (λ (e : EngineState). e.handed) c.self.view_is ∙ c.requires.handlers)

pub tell-requires-clause-there : goal.tell-requires-clause-there
tell-requires-clause-there g c =
    subst (λ (fs : List Firing). AllByRecursion (λ f. IsSome (subscription_of f.install c.self.inside.live_table.subscriptions)) fs) (sym c.as_slice-2.ensures) (there (asked g (goal.at.tell-requires-clause-there g c).After-facts))

pub tell-requires-clause-serve : goal.tell-requires-clause-serve
tell-requires-clause-serve g c = serve_as (view_of c.self.inside).handed _ (ap (λ (e : EngineState). e.handed) c.self.view_is ∙ c.requires.handlers) c.self.inside.live_table.table c.self.inside.cache c.self.invariant.serve

-- what is kept of what was told grew
grows : (g : Over) (c : After-tell g) → Grows (view_of c.self.inside).handed.relations c.self.inside.live_table.table c.self.inside.cache c.tell.new.cache
grows g c = grows_as (view_of c.self.inside).handed _ (ap (λ (e : EngineState). e.handed) c.self.view_is ∙ c.requires.handlers) c.self.inside.live_table.table c.self.inside.cache c.tell.new.cache c.tell.ensures.cached

-- behind the telling, what is kept of what was told, and what waits
holds_told : (g : Over) (c : After-tell g) {firings : List Firing} {expired : List ℕ} → AreAsked (view_of c.self.inside) c.args.instant firings expired → Invariant (record (view_of c.self.inside) { cache = c.tell.new.cache; distinct = c.tell.new.distinct })
holds_told g c asked = invariant_waits (record (view_of c.self.inside) { cache = c.tell.new.cache }) c.tell.new.distinct c.tell.ensures.counts (told_holds asked c.tell.new.cache (grows g c))

pub invariant_of-self : goal.invariant_of-self
invariant_of-self g c = let at = goal.at.invariant_of-self g c in holds_told g at.After-tell (asked g at.After-facts)

pub invariant_of-self-in_err-expired : goal.invariant_of-self-in_err-expired
invariant_of-self-in_err-expired g c = let at = goal.at.invariant_of-self-in_err-expired g c in holds_told g at.After-tell (asked g at.After-facts)

pub invariant_of-self-in_err-write_expired : goal.invariant_of-self-in_err-write_expired
invariant_of-self-in_err-write_expired g c = let at = goal.at.invariant_of-self-in_err-write_expired g c in holds_told g at.After-tell (asked g at.After-facts)

pub invariant_of-self-in_err-move_to : goal.invariant_of-self-in_err-move_to
invariant_of-self-in_err-move_to g c =
    let at = goal.at.invariant_of-self-in_err-move_to g c in
    invariant_same (record (view_of c.self.inside) { cache = c.tell.new.cache; distinct = c.tell.new.distinct }) c.move_to.new.self c.move_to.ensures.subscriptions c.move_to.ensures.table (holds_told g at.After-tell (asked g at.After-facts))

pub invariant_of-self-2 : goal.invariant_of-self-2
invariant_of-self-2 g c =
    let at = goal.at.invariant_of-self-2 g c in
    moved_holds (asked g at.After-facts) c.take_all.new.live_table (moved g at.After-facts-2) c.tell.new.cache c.take_all.new.distinct (grows g at.After-tell) (settled g at.After-facts-2)

pub returns-clause-applies : goal.returns-clause-applies
returns-clause-applies g c =
    let at = goal.at.returns-clause-applies g c in
    let was = view_of c.self.inside in
    let after = c.take_all.new.live_table in
    let late : c.instant.result ≤ c.args.instant = c.if-instant.false in
    let here : c.instant.result ≡ was.clock = c.instant.ensures ∙ ap (λ (b : BookState). b.instant) c.book.ensures in
    let later : nat_lt c.args.instant was.clock ≡ false = grind (arith, nat_tests, late, here) in
    subst (λ (e : EngineState). Applies e (Clock c.args.instant) c.args.out.now.items (Ok c.with-answered.result) (moved_engine was after c.tell.new.cache c.take_all.new.distinct) c.write_expired.new.out.items) c.self.view_is
    (moved_applies (asked g at.After-facts) after (moved g at.After-facts-2) later (handed_in c.args.handlers.now.items.items (λ h. h.name) (λ h. h.kind) c.args.handlers.now.predicates.items (λ p. p.name) (λ p. p.relation)) (ap (λ (e : EngineState). e.handed) c.self.view_is ∙ c.requires.handlers)
    c.args.out.now.items c.write_accepted.new.out.items c.tell.new.out.items c.write_expired.new.out.items c.in_ok-spans.spans c.with-answered.result c.tell.new.cache c.take_all.new.distinct (settled g at.After-facts-2) c.in_ok-answered.ensures.text (written g at.In_ok-write_expired)
    (ap (λ (a : Answered). a.from) c.with-answered.ensures ∙ ap (λ (a : Answered). a.from) c.in_ok-answered.ensures.places)
    (ap (λ (a : Answered). a.to) c.with-answered.ensures)
    (ap (λ (a : Answered). a.spans) c.with-answered.ensures))

-- what is kept of what was told
pub returns-then-instant-clause-cached : goal.returns-then-instant-clause-cached
returns-then-instant-clause-cached g c = keeps_counted c.args.self.now c.refuse.new.self (c.args.self.now.count + 1) c.refuse.ensures.counted

pub returns-in_err-answered-clause-cached : goal.returns-in_err-answered-clause-cached
returns-in_err-answered-clause-cached g c = keeps_itself c.args.self.now

pub returns-in_err-due-clause-cached : goal.returns-in_err-due-clause-cached
returns-in_err-due-clause-cached g c = keeps_itself c.args.self.now

pub returns-in_err-firings-clause-cached : goal.returns-in_err-firings-clause-cached
returns-in_err-firings-clause-cached g c = keeps_itself c.args.self.now

told : (g : Over) (c : After-tell g) {firings : List Firing} {expired : List ℕ} → AreAsked (view_of c.self.inside) c.args.instant firings expired → (table : TableState) → table ≡ c.self.inside.live_table.table
    → KeepsPairs c.args.self.now.handed.relations c.args.self.now.table c.args.self.now.cache table c.tell.new.cache
told g c asked table same = subst (λ (e : EngineState). KeepsPairs e.handed.relations e.table e.cache table c.tell.new.cache) c.self.view_is (told_keeps asked table c.tell.new.cache same (grows g c))

pub returns-in_err-spans-clause-cached : goal.returns-in_err-spans-clause-cached
returns-in_err-spans-clause-cached g c =
    let at = goal.at.returns-in_err-spans-clause-cached g c in
    told g at.After-tell (asked g at.After-facts) c.self.inside.live_table.table refl

pub returns-in_err-expired-clause-cached : goal.returns-in_err-expired-clause-cached
returns-in_err-expired-clause-cached g c =
    let at = goal.at.returns-in_err-expired-clause-cached g c in
    told g at.After-tell (asked g at.After-facts) c.self.inside.live_table.table refl

pub returns-in_err-write_expired-clause-cached : goal.returns-in_err-write_expired-clause-cached
returns-in_err-write_expired-clause-cached g c =
    let at = goal.at.returns-in_err-write_expired-clause-cached g c in
    told g at.After-tell (asked g at.After-facts) c.self.inside.live_table.table refl

pub returns-in_err-move_to-clause-cached : goal.returns-in_err-move_to-clause-cached
returns-in_err-move_to-clause-cached g c =
    let at = goal.at.returns-in_err-move_to-clause-cached g c in
    told g at.After-tell (asked g at.After-facts) c.move_to.new.self.table c.move_to.ensures.table

pub returns-clause-cached : goal.returns-clause-cached
returns-clause-cached g c =
    let at = goal.at.returns-clause-cached g c in
    subst (λ (e : EngineState). KeepsPairs e.handed.relations e.table e.cache c.take_all.new.live_table.table c.tell.new.cache) c.self.view_is
    (moved_keeps (asked g at.After-facts) c.take_all.new.live_table (moved g at.After-facts-2) c.tell.new.cache (grows g at.After-tell))

-- given up behind the telling, it keeps what it keeps then
front : (g : Over) (c : After-tell g) → StartsWith c.tell.new.out.items c.args.out.now.items
front g c = starts_with_trans c.tell.new.out.items c.write_accepted.new.out.items c.args.out.now.items c.tell.ensures.front c.write_accepted.ensures.front

front_expired : (g : Over) (c : After-write_expired g) → StartsWith c.tell.new.out.items c.args.out.now.items → StartsWith c.write_expired.new.out.items c.args.out.now.items
front_expired g c = starts_with_trans c.write_expired.new.out.items c.tell.new.out.items c.args.out.now.items c.write_expired.ensures.front

given_up_told : (g : Over) (c : After-tell g) (result : Result Answered ApplyError) → result ≡ Err OutOfMemory → (out' : List ℕ) → StartsWith out' c.args.out.now.items
    → Applies c.args.self.now (Clock c.args.instant) c.args.out.now.items result (record (view_of c.self.inside) { cache = c.tell.new.cache; distinct = c.tell.new.distinct }) out'
given_up_told g c result failed out' front =
    applies_counts c.args.self.now (Clock c.args.instant) c.args.out.now.items result (record (view_of c.self.inside) { cache = c.tell.new.cache }) out' c.tell.new.distinct c.tell.ensures.counts
    (applies_cached c.args.self.now (Clock c.args.instant) c.args.out.now.items result (view_of c.self.inside) out' c.tell.new.cache
    (gives_up c.args.self.now (Clock c.args.instant) c.args.out.now.items result (view_of c.self.inside) out' failed c.self.view_is front))

pub returns-in_err-spans-clause-applies : goal.returns-in_err-spans-clause-applies
returns-in_err-spans-clause-applies g c =
    let told = (goal.at.returns-in_err-spans-clause-applies g c).After-tell in
    given_up_told g told c.from_residual-in_err-spans.result (search rules) c.tell.new.out.items (front g told)

pub returns-in_err-expired-clause-applies : goal.returns-in_err-expired-clause-applies
returns-in_err-expired-clause-applies g c =
    let told = (goal.at.returns-in_err-expired-clause-applies g c).After-tell in
    given_up_told g told c.from_residual-in_err-expired.result (search rules) c.tell.new.out.items (front g told)

pub returns-in_err-write_expired-clause-applies : goal.returns-in_err-write_expired-clause-applies
returns-in_err-write_expired-clause-applies g c =
    let at = goal.at.returns-in_err-write_expired-clause-applies g c in
    given_up_told g at.After-tell c.from_residual-in_err-write_expired.result (search rules) c.write_expired.new.out.items (front_expired g at.After-write_expired (front g at.After-tell))

pub returns-in_err-move_to-clause-applies : goal.returns-in_err-move_to-clause-applies
returns-in_err-move_to-clause-applies g c =
    let at = goal.at.returns-in_err-move_to-clause-applies g c in
    let was = view_of c.self.inside in
    let written = c.write_expired.new.out.items in
    let result = c.from_residual-in_err-move_to.result in
    let back = with_parts was c.self.inside.store c.move_to.new.self in
    applies_counts c.args.self.now (Clock c.args.instant) c.args.out.now.items result (record back { cache = c.tell.new.cache }) written c.tell.new.distinct c.tell.ensures.counts
    (applies_cached c.args.self.now (Clock c.args.instant) c.args.out.now.items result back written c.tell.new.cache
    (given_up c.self.view_is (Clock c.args.instant) c.args.out.now.items result (search rules) c.self.inside.store (record { changes = refl; sources = refl })
    c.move_to.new.self (record { subscriptions = c.move_to.ensures.subscriptions; table = c.move_to.ensures.table; instant = c.in_err-move_to.ensures.err }) written (front_expired g at.After-write_expired (front g at.After-tell))))
