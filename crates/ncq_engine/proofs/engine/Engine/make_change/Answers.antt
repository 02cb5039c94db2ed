use Rattle.std.proofs.Common.{◌≡◌, ◌∙◌, ◌+◌, List, ℕ, arith, ap, refl, rules, subst, sym}
use Rattle.std.specs.Prelude.{Err, Ok, IfNone, IfSome}
use Rattle.std.proofs.Math.Seq.{take-length}
use Rattle.std.specs.FinMap.{get}
use Rattle.std.specs.Option.{option_map}
use Rattle.ncq_book.specs.Books.{watchers_of}
use Rattle.ncq_callback.specs.Labels.{handed_in}
use Rattle.ncq_group.specs.Tables.{mark_of}
use Rattle.ncq_plan.specs.Relations.{relations}
use Rattle.ncq_group.specs.declared.mark.GroupMark.{GroupMark}
use Rattle.ncq_script.specs.declared.command.Command.TheVariants.{Delta}
use Rattle.ncq_shelf.specs.Contents.{cut_to}
use Rattle.ncq_engine.specs.Applies.{Applies, change_refusal}
use Rattle.ncq_engine.specs.Cached.{KeepsPairs}
use Rattle.ncq_engine.specs.Stands.{EngineState}
use Rattle.ncq_engine.specs.Tellings.{Awaits, IsAnswered, started_of}
use Rattle.ncq_engine.specs.Compactions.{KeepBases}
use Rattle.ncq_engine.proofs.BaseLaws.{answered_so, bases_fed, bases_same, refused_table}
use Rattle.ncq_engine.proofs.CachedAnswers.{awaits_as, grows_as, serve_as, keeps_as_was, keeps_none, keeps_refused, keeps_same}
use Rattle.ncq_engine.proofs.ChangeAnswers.{IsFed, IsReserved, can_tell, change_answers, changed_engine, changed_keeps, fed_firings, holds_changed, holds_ready, is_prepared, served}
use Rattle.ncq_engine.proofs.CountedLaws.{HasSettled}
use Rattle.ncq_engine.proofs.ChangeLaws.{change_refused, told_known}
use Rattle.ncq_engine.specs.declared.engine.ApplyError.TheVariants.{OutOfMemory}
use Rattle.ncq_engine.proofs.EngineLaws.{applies_cached, applies_counts}
use Rattle.ncq_engine.proofs.GivenUp.{IsStill, given_up, with_parts}
use Rattle.ncq_engine.proofs.InvariantLaws.{invariant_alike, invariant_cached, invariant_same, invariant_waits, none_serve}
use Rattle.ncq_engine.proofs.TableLaws.{table_back}
use Rattle.ncq_engine.proofs.Views.{view_of}
use Rattle.ncq_engine.proofs.WorkAnswers.{change_work}
use Rattle.ncq_engine.proofs.engine.Engine.make_change.Given.{Over}
use Rattle.ncq_engine.proofs.engine.Engine.make_change.Goals.{After-facts-2, After-roll_back, After-settle, In_err-fed, In_ok-reserve}
use Rattle.ncq_engine.proofs.engine.Engine.make_change.Goals as goal

-- the change was prepared, and there is room for it
reserved : (g : Over) (c : In_ok-reserve g) → IsReserved (view_of c.self.inside) c.args.sections.now c.in-Ok.change c.reserve.new.self
reserved g c =
    let told = told_known c.self.inside.store c.args.sections.now c.prepare.result c.in-Ok.change c.in-Ok.is c.prepare.ensures.tells in
    record {
      holds = c.self.invariant;
      alike = c.in_ok-reserve.ensures.same;
      known = told.0;
      tried = told.1;
      prepares = c.in-Ok.ensures.portions;
    }

-- and the files were fed
fed : (g : Over) (c : After-facts-2 g) → IsFed (view_of c.self.inside) c.in-Ok.change c.reserve.new.self c.feed.new.self c.in_ok-fed.fed
fed g c = record {
  fed = c.in_ok-fed.ensures.fed;
  fits = c.in_ok-fed.ensures.fits;
  number = c.in_ok-fed.ensures.number;
  next_file = c.in_ok-fed.ensures.next_file;
  named = c.in_ok-fed.ensures.named;
  facts = c.facts-2.ensures.facts;
  subscriptions = c.in_ok-fed.ensures.subscriptions;
  instant = c.in_ok-fed.ensures.instant;
}

-- what waited for those who fire was settled
settles : (g : Over) (c : After-settle g) → (fed : List ℕ) → c.as_slice.result.now ≡ fed
    → HasSettled (view_of c.self.inside).handed.relations c.reserve.new.self c.feed.new.self (fed_firings c.feed.new.self fed) c.self.inside.distinct c.settle.new.self
settles g c fed is = record {
  waited = c.answer_change.new.distinct;
  same = c.answer_change.ensures.counts;
  waits = awaits_as (view_of c.self.inside).handed _ (ap (λ (e : EngineState). e.handed) c.self.view_is ∙ c.requires.handlers) c.reserve.new.self c.feed.new.self (fed_firings c.feed.new.self fed) c.answer_change.new.distinct
      (subst (λ (list : List ℕ). Awaits (relations c.args.handlers.now.predicates.items (λ p. p.name) (λ p. p.relation)) c.reserve.new.self c.feed.new.self (fed_firings c.feed.new.self list) c.answer_change.new.distinct) is c.in-Ok-answer_change.ensures.waiting);
  settled = c.settle.ensures.counts;
}

-- the files were not fed
unfed : (g : Over) (c : In_err-fed g) → IsStill (view_of c.self.inside) c.feed.new.self
unfed g c = record { subscriptions = c.feed.ensures.subscriptions; table = c.in_err-fed.ensures.err; instant = c.feed.ensures.instant }

-- the files were fed, and what came was taken away again
rolled_back : (g : Over) (c : After-roll_back g) → IsReserved (view_of c.self.inside) c.args.sections.now c.in-Ok.change c.reserve.new.self → IsStill (view_of c.self.inside) c.roll_back.new.self
rolled_back g c reserved =
    let table = c.self.inside.live_table.table in
    let mark : c.mark-mark.result ≡ mark_of table = c.mark-mark.ensures in
    record {
      subscriptions = c.roll_back.ensures.subscriptions ∙ c.in_ok-fed.ensures.subscriptions;
      table = table_back c.reserve.new.self c.in-Ok.change table c.feed.new.self.table c.roll_back.new.self.table c.in_ok-fed.ensures.fed c.facts.ensures.facts.up_to (sym (holds_ready reserved).number)
          (λ at. c.roll_back.ensures.files at ∙ ap (λ (m : GroupMark). option_map (cut_to m.number) (get c.feed.new.self.table.files at)) mark)
          (c.roll_back.ensures.number ∙ ap (λ (m : GroupMark). m.number) mark) (c.roll_back.ensures.next_file ∙ ap (λ (m : GroupMark). m.next_file) mark);
      instant = c.roll_back.ensures.instant ∙ c.in_ok-fed.ensures.instant;
    }

pub returns-in-Err-clause-applies : goal.returns-in-Err-clause-applies
returns-in-Err-clause-applies g c =
    let was = view_of c.self.inside in
    subst (λ (e : EngineState). Applies e (Delta c.args.sections.now) c.args.out.now.items c.refuse_change.result c.refuse_change.new.self c.args.out.now.items) c.self.view_is
    (change_refused was c.args.sections.now c.prepare.result c.prepare.ensures.tells c.args.out.now.items c.refuse_change.result c.refuse_change.new.self c.args.out.now.items refl
    c.in-Err.error c.in-Err.is c.refuse_change.ensures.refused
    (subst (λ (e : EngineState). IfSome (change_refusal c.in-Err.error) (λ _. c.refuse_change.new.self ≡ record e { count = e.count + 1 })) (sym c.self.view_is) c.refuse_change.ensures.counted)
    (subst (λ (e : EngineState). IfNone (change_refusal c.in-Err.error) (c.refuse_change.new.self ≡ e)) (sym c.self.view_is) c.refuse_change.ensures.same))

pub returns-in-Err-clause-work : goal.returns-in-Err-clause-work
returns-in-Err-clause-work g c = λ h stands bound work. omega arith

pub invariant_of-self : goal.invariant_of-self
invariant_of-self g c = invariant_alike (view_of c.self.inside) c.reserve.new.self c.in_err-reserve.ensures.same c.self.invariant

pub invariant_of-self-in_err-fed : goal.invariant_of-self-in_err-fed
invariant_of-self-in_err-fed g c =
    let at = goal.at.invariant_of-self-in_err-fed g c in
    let still = unfed g at.In_err-fed in
    invariant_same (record (view_of c.self.inside) { store = c.reserve.new.self }) c.feed.new.self still.subscriptions still.table (holds_ready (reserved g at.In_ok-reserve))

pub feed-requires-clause-change : goal.feed-requires-clause-change
feed-requires-clause-change g c = is_prepared (reserved g (goal.at.feed-requires-clause-change g c).In_ok-reserve)

pub feed-requires-clause-number : goal.feed-requires-clause-number
feed-requires-clause-number g c = sym (holds_ready (reserved g (goal.at.feed-requires-clause-number g c).In_ok-reserve)).number

pub feed-requires-clause-more : goal.feed-requires-clause-more
feed-requires-clause-more g c =
    let a = c.self.invariant.changes in let n = c.self.invariant.number in let few = c.requires.few in let count = ap (λ (e : EngineState). e.count) c.self.view_is in
    omega (arith, a, n, few, count)

pub feed-requires-clause-fits : goal.feed-requires-clause-fits
feed-requires-clause-fits g c = (holds_ready (reserved g (goal.at.feed-requires-clause-fits g c).In_ok-reserve)).fits

pub answer_change-requires : goal.answer_change-requires
answer_change-requires g c =
    let at = goal.at.answer_change-requires g c in
    let ready = reserved g at.In_ok-reserve in
    let done = fed g at.After-facts-2 in
    record { can = can_tell ready done (handed_in c.args.handlers.now.items.items (λ h. h.name) (λ h. h.kind) c.args.handlers.now.predicates.items (λ p. p.name) (λ p. p.relation)) (ap (λ (e : EngineState). e.handed) c.self.view_is ∙ c.requires.handlers); serve = serve_as (view_of c.self.inside).handed _ (ap (λ (e : EngineState). e.handed) c.self.view_is ∙ c.requires.handlers) c.feed.new.self.table c.self.inside.cache (served ready done) }

pub invariant_of-self-in-Ok-answer_change : goal.invariant_of-self-in-Ok-answer_change
invariant_of-self-in-Ok-answer_change g c =
    let at = goal.at.invariant_of-self-in-Ok-answer_change g c in
    holds_changed (reserved g at.In_ok-reserve) (fed g at.After-facts-2) c.commit.new.self c.commit.ensures.done c.answer_change.new.cache c.settle.new.self (grows_as (view_of c.self.inside).handed _ (ap (λ (e : EngineState). e.handed) c.self.view_is ∙ c.requires.handlers) c.feed.new.self.table c.self.inside.cache c.answer_change.new.cache c.answer_change.ensures.cached) (settles g at.After-settle c.in_ok-fed.fed c.as_slice.ensures)

pub invariant_of-self-in-Err-answer_change : goal.invariant_of-self-in-Err-answer_change
invariant_of-self-in-Err-answer_change g c =
    let at = goal.at.invariant_of-self-in-Err-answer_change g c in
    let ready = reserved g at.In_ok-reserve in
    let after = c.roll_back.new.self in
    let still = rolled_back g at.After-roll_back ready in
    invariant_waits (record (view_of c.self.inside) { store = c.reserve.new.self; subscriptions = after.subscriptions; table = after.table; cache = c.clear.new.self }) c.answer_change.new.distinct c.answer_change.ensures.counts
    (invariant_cached (record (view_of c.self.inside) { store = c.reserve.new.self; subscriptions = after.subscriptions; table = after.table }) c.clear.new.self (none_serve (view_of c.self.inside).handed.relations after.table c.clear.new.self c.clear.ensures)
    (invariant_same (record (view_of c.self.inside) { store = c.reserve.new.self }) after still.subscriptions still.table (holds_ready ready)))

pub returns-in-Ok-answer_change-clause-applies : goal.returns-in-Ok-answer_change-clause-applies
returns-in-Ok-answer_change-clause-applies g c =
    let at = goal.at.returns-in-Ok-answer_change-clause-applies g c in
    let known = handed_in c.args.handlers.now.items.items (λ h. h.name) (λ h. h.kind) c.args.handlers.now.predicates.items (λ p. p.name) (λ p. p.relation) in
    let after = c.feed.new.self in
    let told = subst (λ list. IsAnswered (c.self.inside.count + 1) known c.reserve.new.self c.self.inside.distinct after (started_of after (watchers_of list after.subscriptions)) c.args.out.now.items c.answer_change.new.out.items c.in-Ok-answer_change.answered) c.as_slice.ensures c.in-Ok-answer_change.ensures.told in
    subst (λ (e : EngineState). Applies e (Delta c.args.sections.now) c.args.out.now.items (Ok c.in-Ok-answer_change.answered) (changed_engine (view_of c.self.inside) c.commit.new.self after c.answer_change.new.cache c.settle.new.self) c.answer_change.new.out.items) c.self.view_is
    (change_answers (reserved g at.In_ok-reserve) (fed g at.After-facts-2) c.commit.new.self c.commit.ensures.done known (ap (λ (e : EngineState). e.handed) c.self.view_is ∙ c.requires.handlers)
    c.args.out.now.items c.answer_change.new.out.items c.in-Ok-answer_change.answered c.answer_change.new.cache c.settle.new.self (settles g at.After-settle c.in_ok-fed.fed c.as_slice.ensures) told)

pub returns-in_err-reserve-clause-applies : goal.returns-in_err-reserve-clause-applies
returns-in_err-reserve-clause-applies g c =
    given_up c.self.view_is (Delta c.args.sections.now) c.args.out.now.items c.from_residual.result (search rules) c.reserve.new.self c.in_err-reserve.ensures.same
    c.self.inside.live_table (record { subscriptions = refl; table = refl; instant = refl }) c.args.out.now.items (take-length c.args.out.now.items)

pub returns-in_err-fed-clause-applies : goal.returns-in_err-fed-clause-applies
returns-in_err-fed-clause-applies g c =
    let at = goal.at.returns-in_err-fed-clause-applies g c in
    given_up c.self.view_is (Delta c.args.sections.now) c.args.out.now.items c.from_residual-in_err-fed.result (search rules) c.reserve.new.self c.in_ok-reserve.ensures.same
    c.feed.new.self (unfed g at.In_err-fed) c.args.out.now.items (take-length c.args.out.now.items)

pub returns-in-Err-answer_change-clause-applies : goal.returns-in-Err-answer_change-clause-applies
returns-in-Err-answer_change-clause-applies g c =
    let at = goal.at.returns-in-Err-answer_change-clause-applies g c in
    let written = c.answer_change.new.out.items in
    let back = with_parts (view_of c.self.inside) c.reserve.new.self c.roll_back.new.self in
    applies_counts c.args.self.now (Delta c.args.sections.now) c.args.out.now.items (Err OutOfMemory) (record back { cache = c.clear.new.self }) written c.answer_change.new.distinct c.answer_change.ensures.counts
    (applies_cached c.args.self.now (Delta c.args.sections.now) c.args.out.now.items (Err OutOfMemory) back written c.clear.new.self
    (given_up c.self.view_is (Delta c.args.sections.now) c.args.out.now.items (Err OutOfMemory) refl c.reserve.new.self c.in_ok-reserve.ensures.same
    c.roll_back.new.self (rolled_back g at.After-roll_back (reserved g at.In_ok-reserve)) written c.answer_change.ensures.front))

pub returns-in-Ok-answer_change-clause-work : goal.returns-in-Ok-answer_change-clause-work
returns-in-Ok-answer_change-clause-work g c = change_work c.self.view_is c.args.steps.now c.feed.new.steps (reserved g (goal.at.returns-in-Ok-answer_change-clause-work g c).In_ok-reserve) c.feed.ensures.cost

pub returns-in-Err-answer_change-clause-work : goal.returns-in-Err-answer_change-clause-work
returns-in-Err-answer_change-clause-work g c = change_work c.self.view_is c.args.steps.now c.feed.new.steps (reserved g (goal.at.returns-in-Err-answer_change-clause-work g c).In_ok-reserve) c.feed.ensures.cost

pub returns-in_err-fed-clause-work : goal.returns-in_err-fed-clause-work
returns-in_err-fed-clause-work g c = change_work c.self.view_is c.args.steps.now c.feed.new.steps (reserved g (goal.at.returns-in_err-fed-clause-work g c).In_ok-reserve) c.feed.ensures.cost

-- the files keep their bases
pub returns-in-Ok-answer_change-clause-bases : goal.returns-in-Ok-answer_change-clause-bases
returns-in-Ok-answer_change-clause-bases g c =
    let after = changed_engine (view_of c.self.inside) c.commit.new.self c.feed.new.self c.answer_change.new.cache c.settle.new.self in
    subst (λ (e : EngineState). KeepBases e after) c.self.view_is (bases_fed c.reserve.new.self c.in-Ok.change (view_of c.self.inside) after c.in_ok-fed.ensures.fed)

pub returns-in-Err-clause-bases : goal.returns-in-Err-clause-bases
returns-in-Err-clause-bases g c =
    answered_so c.refuse_change.result (bases_same c.args.self.now c.refuse_change.new.self
    (refused_table (change_refusal c.in-Err.error) c.args.self.now c.refuse_change.new.self (c.args.self.now.count + 1) c.refuse_change.ensures.counted c.refuse_change.ensures.same))

-- what is kept of what was told
pub returns-in-Err-clause-cached : goal.returns-in-Err-clause-cached
returns-in-Err-clause-cached g c =
    keeps_refused (change_refusal c.in-Err.error) c.args.self.now c.refuse_change.new.self (c.args.self.now.count + 1) c.refuse_change.ensures.counted c.refuse_change.ensures.same

pub returns-in_err-reserve-clause-cached : goal.returns-in_err-reserve-clause-cached
returns-in_err-reserve-clause-cached g c = keeps_as_was c.self.view_is

pub returns-in_err-fed-clause-cached : goal.returns-in_err-fed-clause-cached
returns-in_err-fed-clause-cached g c =
    keeps_same c.args.self.now (with_parts (view_of c.self.inside) c.reserve.new.self c.feed.new.self) (c.in_err-fed.ensures.err ∙ ap (λ (e : EngineState). e.table) c.self.view_is) (ap (λ (e : EngineState). e.cache) c.self.view_is)

pub returns-in-Ok-answer_change-clause-cached : goal.returns-in-Ok-answer_change-clause-cached
returns-in-Ok-answer_change-clause-cached g c =
    let at = goal.at.returns-in-Ok-answer_change-clause-cached g c in
    subst (λ (e : EngineState). KeepsPairs e.handed.relations e.table e.cache c.feed.new.self.table c.answer_change.new.cache) c.self.view_is
    (changed_keeps (reserved g at.In_ok-reserve) (fed g at.After-facts-2) c.answer_change.new.cache (grows_as (view_of c.self.inside).handed _ (ap (λ (e : EngineState). e.handed) c.self.view_is ∙ c.requires.handlers) c.feed.new.self.table c.self.inside.cache c.answer_change.new.cache c.answer_change.ensures.cached))

pub returns-in-Err-answer_change-clause-cached : goal.returns-in-Err-answer_change-clause-cached
returns-in-Err-answer_change-clause-cached g c = keeps_none c.args.self.now c.roll_back.new.self.table c.clear.new.self c.clear.ensures
