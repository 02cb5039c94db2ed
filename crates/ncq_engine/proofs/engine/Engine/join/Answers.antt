use Rattle.std.proofs.Common.{◌≡◌, ◌∙◌, List, ap, refl, rules, subst, sym, arith}
use Rattle.std.specs.Prelude.{Err, Ok}
use Rattle.std.proofs.Math.Seq.{take-length}
use Rattle.ncq_callback.specs.Labels.{handed_in}
use Rattle.ncq_event.specs.declared.firing.Firing.{Firing}
use Rattle.ncq_live.specs.LiveTables.{LiveState}
use Rattle.ncq_plan.specs.Relations.{relations}
use Rattle.ncq_script.specs.declared.command.Command.TheVariants.{Create}
use Rattle.ncq_xmlql.specs.declared.model.Statement.{Statement}
use Rattle.ncq_engine.specs.declared.engine.ApplyError.TheVariants.{OutOfMemory}
use Rattle.ncq_engine.specs.Applies.{Applies}
use Rattle.ncq_engine.specs.Cached.{KeepsPairs}
use Rattle.ncq_engine.specs.Joins.{IsSubscriptionOf}
use Rattle.ncq_engine.specs.Stands.{EngineState}
use Rattle.ncq_engine.specs.Tellings.{Awaits, noted_by}
use Rattle.ncq_engine.proofs.CachedAnswers.{awaits_as, grows_as, serve_as, keeps_itself, keeps_none, keeps_same}
use Rattle.ncq_engine.proofs.CountedLaws.{HasSettled}
use Rattle.ncq_engine.proofs.CreateAnswers.{HasCome, above_is, come_answers, come_can, come_holds, come_keeps, come_serve, created_engine, free_is, gone_mark, gone_subscriptions, gone_table, room_left, subscriptions_few}
use Rattle.ncq_engine.proofs.EngineLaws.{applies_cached, applies_counts, gives_up}
use Rattle.ncq_engine.proofs.GivenUp.{IsStill, given_up, with_parts}
use Rattle.ncq_engine.proofs.InvariantLaws.{invariant_cached, invariant_same, invariant_waits, none_serve}
use Rattle.ncq_engine.proofs.Views.{view_of}
use Rattle.ncq_engine.proofs.WorkAnswers.{join_work}
use Rattle.ncq_engine.proofs.engine.Engine.join.Given.{Over}
use Rattle.ncq_engine.proofs.engine.Engine.join.Goals.{After-facts-2, After-note_all, After-roll_back, After-settle, In_err-add, In_ok-plan}
use Rattle.ncq_engine.proofs.engine.Engine.join.Goals as goal

-- the subscription is that of a statement, for the engine as it was
of_statement : (g : Over) (c : In_ok-plan g) → (statement : Statement) → IsSubscriptionOf c.args.self.now statement c.args.subscription → IsSubscriptionOf (view_of c.self.inside) statement c.args.subscription
of_statement g c statement = subst (λ (e : EngineState). IsSubscriptionOf e statement c.args.subscription) (sym c.self.view_is)

-- it came in
come : (g : Over) (c : After-facts-2 g) (statement : Statement) → IsSubscriptionOf c.args.self.now statement c.args.subscription → HasCome (view_of c.self.inside) statement c.args.subscription c.in_ok-plan.plan c.add.new.self
come g c statement its = record {
  holds = c.self.invariant;
  its = subst (λ (e : EngineState). IsSubscriptionOf e statement c.args.subscription) (sym c.self.view_is) its;
  planned = c.in_ok-plan.ensures;
  joined = c.in_ok-add.ensures.ok;
  fits = c.in_ok-add.ensures.fits;
  instant = c.in_ok-add.ensures.instant;
  before = c.facts.ensures.facts;
  facts = c.facts-2.ensures.facts;
}

-- its firing was noted
noted : (g : Over) (c : After-note_all g) → c.note_all.new.live_table ≡ record c.add.new.self { subscriptions = noted_by c.self.inside.store.changes c.in-Ok.firings c.add.new.self.subscriptions }
noted g c = c.note_all.ensures ∙ (λ j. record c.add.new.self { subscriptions = noted_by (c.changes-changes.ensures j) (c.as_slice.ensures j) c.add.new.self.subscriptions })

-- what waited for it was settled
settles : (g : Over) (c : After-settle g) → HasSettled (view_of c.self.inside).handed.relations c.self.inside.store c.add.new.self c.in-Ok.firings c.self.inside.distinct c.settle.new.self
settles g c = record {
  waited = c.answer_create.new.distinct;
  same = c.answer_create.ensures.counts;
  waits = awaits_as (view_of c.self.inside).handed _ (ap (λ (e : EngineState). e.handed) c.self.view_is ∙ c.requires.handlers) c.self.inside.store c.add.new.self c.in-Ok.firings c.answer_create.new.distinct
      (subst (λ (firings : List Firing). Awaits (relations c.args.handlers.now.predicates.items (λ p. p.name) (λ p. p.relation)) c.self.inside.store c.add.new.self firings c.answer_create.new.distinct) (sym c.in-Ok.ensures.firings) c.in-Ok.ensures.waiting);
  settled = c.settle.ensures.counts;
}

-- it did not come in
not_in : (g : Over) (c : In_err-add g) → IsStill (view_of c.self.inside) c.add.new.self
not_in g c = record {
  subscriptions = ap (λ (l : LiveState). l.subscriptions) c.in_err-add.ensures.err;
  table = ap (λ (l : LiveState). l.table) c.in_err-add.ensures.err;
  instant = ap (λ (l : LiveState). l.instant) c.in_err-add.ensures.err;
}

-- it came in, and went again
gone : (g : Over) (c : After-roll_back g) (statement : Statement) → HasCome (view_of c.self.inside) statement c.args.subscription c.in_ok-plan.plan c.add.new.self → IsStill (view_of c.self.inside) c.roll_back.new.self
gone g c statement come_in = record {
  subscriptions = c.roll_back.ensures.subscriptions ∙ gone_subscriptions come_in c.remove.new.self c.remove.ensures.subscriptions c.remove.ensures.files;
  table = gone_table come_in c.remove.new.self c.remove.ensures.subscriptions c.remove.ensures.files c.mark-mark.result c.roll_back.new.self.table c.mark-mark.ensures c.roll_back.ensures.number c.roll_back.ensures.next_file c.roll_back.ensures.files;
  instant = c.roll_back.ensures.instant ∙ c.remove.ensures.instant ∙ c.add.ensures.instant;
}

pub plan_by-requires : goal.plan_by-requires
plan_by-requires g c = c.requires.some.1.formed

pub add-requires-clause-formed : goal.add-requires-clause-formed
add-requires-clause-formed g c = c.requires.some.1.formed

pub add-requires-clause-plan : goal.add-requires-clause-plan
add-requires-clause-plan g c = c.in_ok-plan.ensures

pub add-requires-clause-above : goal.add-requires-clause-above
add-requires-clause-above g c =
    let statement = c.requires.some.0 in
    above_is (view_of c.self.inside) statement c.args.subscription (of_statement g (goal.at.add-requires-clause-above g c).In_ok-plan statement c.requires.some.1) c.self.invariant

pub add-requires-clause-free : goal.add-requires-clause-free
add-requires-clause-free g c =
    let statement = c.requires.some.0 in
    free_is (view_of c.self.inside) statement c.args.subscription (of_statement g (goal.at.add-requires-clause-free g c).In_ok-plan statement c.requires.some.1)

pub add-requires-clause-few : goal.add-requires-clause-few
add-requires-clause-few g c =
    subscriptions_few (view_of c.self.inside) c.self.invariant (let n = ap (λ (e : EngineState). e.count) c.self.view_is in let few = c.requires.few in omega (arith, n, few))

pub add-requires-clause-number : goal.add-requires-clause-number
add-requires-clause-number g c = sym c.self.invariant.number

pub add-requires-clause-fits : goal.add-requires-clause-fits
add-requires-clause-fits g c = c.self.invariant.fits

pub add-requires-clause-room : goal.add-requires-clause-room
add-requires-clause-room g c =
    room_left (view_of c.self.inside) c.self.invariant (let n = ap (λ (e : EngineState). e.count) c.self.view_is in let few = c.requires.few in omega (arith, n, few))

pub answer_create-requires : goal.answer_create-requires
answer_create-requires g c =
    let come_in = come g (goal.at.answer_create-requires g c).After-facts-2 c.requires.some.0 c.requires.some.1 in
    record {
      can = come_can come_in (handed_in c.args.handlers.now.items.items (λ h. h.name) (λ h. h.kind) c.args.handlers.now.predicates.items (λ p. p.name) (λ p. p.relation)) (ap (λ (e : EngineState). e.handed) c.self.view_is ∙ c.requires.handlers);
      serve = serve_as (view_of c.self.inside).handed _ (ap (λ (e : EngineState). e.handed) c.self.view_is ∙ c.requires.handlers) c.add.new.self.table c.self.inside.cache (come_serve come_in);
    }

pub invariant_of-self : goal.invariant_of-self
invariant_of-self g c =
    let still = not_in g (goal.at.invariant_of-self g c).In_err-add in
    invariant_same (view_of c.self.inside) c.add.new.self still.subscriptions still.table c.self.invariant

pub invariant_of-self-in-Ok : goal.invariant_of-self-in-Ok
invariant_of-self-in-Ok g c =
    let at = goal.at.invariant_of-self-in-Ok g c in
    come_holds (come g at.After-facts-2 c.requires.some.0 c.requires.some.1) c.in-Ok.firings c.in-Ok.ensures.firings c.note_all.new.live_table (noted g at.After-note_all) c.answer_create.new.cache c.settle.new.self (grows_as (view_of c.self.inside).handed _ (ap (λ (e : EngineState). e.handed) c.self.view_is ∙ c.requires.handlers) c.add.new.self.table c.self.inside.cache c.answer_create.new.cache c.answer_create.ensures.cached) (settles g at.After-settle)

pub roll_back-requires-clause-base : goal.roll_back-requires-clause-base
roll_back-requires-clause-base g c = λ number file there.
    (gone_mark (come g (goal.at.roll_back-requires-clause-base g c).After-facts-2 c.requires.some.0 c.requires.some.1) c.remove.new.self c.remove.ensures.subscriptions c.remove.ensures.files
    c.mark-mark.result c.mark-mark.ensures number file there).0

pub roll_back-requires-clause-below : goal.roll_back-requires-clause-below
roll_back-requires-clause-below g c = λ number file there.
    (gone_mark (come g (goal.at.roll_back-requires-clause-below g c).After-facts-2 c.requires.some.0 c.requires.some.1) c.remove.new.self c.remove.ensures.subscriptions c.remove.ensures.files
    c.mark-mark.result c.mark-mark.ensures number file there).1

pub invariant_of-self-in-Err : goal.invariant_of-self-in-Err
invariant_of-self-in-Err g c =
    let at = goal.at.invariant_of-self-in-Err g c in
    let after = c.roll_back.new.self in
    let still = gone g at.After-roll_back c.requires.some.0 (come g at.After-facts-2 c.requires.some.0 c.requires.some.1) in
    invariant_waits (record (view_of c.self.inside) { subscriptions = after.subscriptions; table = after.table; cache = c.clear.new.self }) c.answer_create.new.distinct c.answer_create.ensures.counts
    (invariant_cached (record (view_of c.self.inside) { subscriptions = after.subscriptions; table = after.table }) c.clear.new.self (none_serve (view_of c.self.inside).handed.relations after.table c.clear.new.self c.clear.ensures)
    (invariant_same (view_of c.self.inside) after still.subscriptions still.table c.self.invariant))

pub returns-in-Ok-clause-applies : goal.returns-in-Ok-clause-applies
returns-in-Ok-clause-applies g c = λ statement its.
    let at = goal.at.returns-in-Ok-clause-applies g c in
    let was = view_of c.self.inside in
    subst (λ (e : EngineState). Applies e (Create statement) c.args.out.now.items (Ok c.in-Ok.answered) (created_engine was c.note_all.new.live_table c.answer_create.new.cache c.settle.new.self) c.answer_create.new.out.items) c.self.view_is
    (come_answers (come g at.After-facts-2 statement its) c.in-Ok.firings c.in-Ok.ensures.firings c.note_all.new.live_table (noted g at.After-note_all)
    (handed_in c.args.handlers.now.items.items (λ h. h.name) (λ h. h.kind) c.args.handlers.now.predicates.items (λ p. p.name) (λ p. p.relation)) (ap (λ (e : EngineState). e.handed) c.self.view_is ∙ c.requires.handlers) c.args.out.now.items c.answer_create.new.out.items c.in-Ok.answered c.answer_create.new.cache c.settle.new.self (settles g at.After-settle) c.in-Ok.ensures.told)

pub returns-in_err-plan-clause-applies : goal.returns-in_err-plan-clause-applies
returns-in_err-plan-clause-applies g c = λ statement its.
    gives_up c.args.self.now (Create statement) c.args.out.now.items c.from_residual.result c.args.self.now c.args.out.now.items (search rules) refl (take-length c.args.out.now.items)

pub returns-in_err-add-clause-applies : goal.returns-in_err-add-clause-applies
returns-in_err-add-clause-applies g c = λ statement its.
    given_up c.self.view_is (Create statement) c.args.out.now.items c.from_residual-in_err-add.result (search rules) c.self.inside.store (record { changes = refl; sources = refl })
    c.add.new.self (not_in g (goal.at.returns-in_err-add-clause-applies g c).In_err-add) c.args.out.now.items (take-length c.args.out.now.items)

pub returns-clause-applies : goal.returns-clause-applies
returns-clause-applies g c = λ statement its.
    let at = goal.at.returns-clause-applies g c in
    let written = c.answer_create.new.out.items in
    let back = with_parts (view_of c.self.inside) c.self.inside.store c.roll_back.new.self in
    applies_counts c.args.self.now (Create statement) c.args.out.now.items (Err OutOfMemory) (record back { cache = c.clear.new.self }) written c.answer_create.new.distinct c.answer_create.ensures.counts
    (applies_cached c.args.self.now (Create statement) c.args.out.now.items (Err OutOfMemory) back written c.clear.new.self
    (given_up c.self.view_is (Create statement) c.args.out.now.items (Err OutOfMemory) refl c.self.inside.store (record { changes = refl; sources = refl })
    c.roll_back.new.self (gone g at.After-roll_back statement (come g at.After-facts-2 statement its)) written c.answer_create.ensures.front))

pub returns-in-Ok-clause-work : goal.returns-in-Ok-clause-work
returns-in-Ok-clause-work g c = join_work c.self.view_is c.args.steps.now c.add.new.steps c.args.subscription c.in_ok-plan.plan c.in_ok-plan.ensures c.add.ensures.cost

pub returns-clause-work : goal.returns-clause-work
returns-clause-work g c = join_work c.self.view_is c.args.steps.now c.add.new.steps c.args.subscription c.in_ok-plan.plan c.in_ok-plan.ensures c.add.ensures.cost

pub returns-in_err-add-clause-work : goal.returns-in_err-add-clause-work
returns-in_err-add-clause-work g c = join_work c.self.view_is c.args.steps.now c.add.new.steps c.args.subscription c.in_ok-plan.plan c.in_ok-plan.ensures c.add.ensures.cost

pub returns-in_err-plan-clause-work : goal.returns-in_err-plan-clause-work
returns-in_err-plan-clause-work g c = λ statement its h stands bound work. omega arith

-- what is kept of what was told
pub returns-in_err-plan-clause-cached : goal.returns-in_err-plan-clause-cached
returns-in_err-plan-clause-cached g c = keeps_itself c.args.self.now

pub returns-in_err-add-clause-cached : goal.returns-in_err-add-clause-cached
returns-in_err-add-clause-cached g c =
    keeps_same c.args.self.now (with_parts (view_of c.self.inside) c.self.inside.store c.add.new.self)
    ((not_in g (goal.at.returns-in_err-add-clause-cached g c).In_err-add).table ∙ ap (λ (e : EngineState). e.table) c.self.view_is) (ap (λ (e : EngineState). e.cache) c.self.view_is)

pub returns-in-Ok-clause-cached : goal.returns-in-Ok-clause-cached
returns-in-Ok-clause-cached g c =
    let at = goal.at.returns-in-Ok-clause-cached g c in
    subst (λ (e : EngineState). KeepsPairs e.handed.relations e.table e.cache c.note_all.new.live_table.table c.answer_create.new.cache) c.self.view_is
    (come_keeps (come g at.After-facts-2 c.requires.some.0 c.requires.some.1) c.in-Ok.firings c.in-Ok.ensures.firings c.note_all.new.live_table (noted g at.After-note_all) c.answer_create.new.cache (grows_as (view_of c.self.inside).handed _ (ap (λ (e : EngineState). e.handed) c.self.view_is ∙ c.requires.handlers) c.add.new.self.table c.self.inside.cache c.answer_create.new.cache c.answer_create.ensures.cached))

pub returns-clause-cached : goal.returns-clause-cached
returns-clause-cached g c = keeps_none c.args.self.now c.roll_back.new.self.table c.clear.new.self c.clear.ensures
