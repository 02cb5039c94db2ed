use Rattle.std.proofs.Common.{◌≡◌, ◌∙◌, ◌+◌, Bool, List, ℕ, ap, subst, sym, arith, true, false}
use Rattle.std.specs.Prelude.{Err, Ok}
use Rattle.std.specs.List.{list_any}
use Rattle.std.specs.Str.{bytes_eq}
use Rattle.ncq_bind.specs.Bindings.{Binds, roots_in}
use Rattle.ncq_book.specs.Books.{BookState}
use Rattle.ncq_book.specs.declared.subscription.Subscription.{Subscription as Kept}
use Rattle.ncq_callback.specs.Labels.{Handed, handed_in}
use Rattle.ncq_event.specs.declared.timing.Timing.{Timing}
use Rattle.ncq_event.specs.Instants.{is_expired}
use Rattle.ncq_plan.specs.Relations.{Relations, relations}
use Rattle.ncq_source.specs.StoreStates.{StoreState}
use Rattle.ncq_engine.specs.Applies.{query_refusal}
use Rattle.ncq_engine.specs.Joins.{IsSubscriptionOf, timed}
use Rattle.ncq_engine.specs.Notices.{kind_in}
use Rattle.ncq_engine.specs.Output.{is_at_odds}
use Rattle.ncq_engine.specs.Stands.{EngineState}
use Rattle.ncq_engine.proofs.CachedAnswers.{keeps_counted, keeps_itself, keeps_refused}
use Rattle.ncq_engine.proofs.CreateAnswers.{subscription_of_it}
use Rattle.ncq_engine.proofs.CreateLaws.{create_late, create_odd, create_taken, create_unbound}
use Rattle.ncq_engine.proofs.engine.Engine.create.Given.{Over}
use Rattle.ncq_engine.proofs.engine.Engine.create.Goals.{After-has, In-Ok, In_ok-subscription}
use Rattle.ncq_engine.proofs.engine.Engine.create.Goals as goal

-- whether the name is that of a subscription
abbrev has_name : List ℕ → List Kept → Bool
has_name name subscriptions = list_any (λ m. bytes_eq name m.name) subscriptions

has_is : (g : Over) (c : After-has g) → has_name c.args.statement.now.name c.args.self.now.subscriptions ≡ c.has.result
has_is g c =
    ap (λ (e : EngineState). has_name c.args.statement.now.name e.subscriptions) (sym c.self.view_is)
    ∙ ap (λ (b : BookState). has_name c.args.statement.now.name b.subscriptions) (sym c.book.ensures) ∙ sym c.has.ensures

-- the query binds
binds : (g : Over) (c : In-Ok g) → Binds c.args.self.now.handed.relations c.args.statement.now.query (roots_in c.args.self.now.store) (Ok c.in-Ok.query)
binds g c = let asked = (λ i. relations (c.predicates.ensures i).items (λ p. p.name) (λ p. p.relation)) ∙ sym (ap (λ (k : Handed). k.relations) c.requires.handlers) in
    let declared = ap (λ (e : EngineState). e.store) c.self.view_is in
    subst (λ (p : Relations × StoreState). Binds p.0 c.args.statement.now.query (roots_in p.1) (Ok c.in-Ok.query)) (λ i. (asked i, declared i)) c.in-Ok.ensures.answer

-- the subscription is that of the statement
its : (g : Over) (c : In_ok-subscription g) → has_name c.args.statement.now.name c.args.self.now.subscriptions ≡ false → Binds c.args.self.now.handed.relations c.args.statement.now.query (roots_in c.args.self.now.store) (Ok c.in-Ok.query)
    → IsSubscriptionOf c.args.self.now c.args.statement.now c.in_ok-subscription.subscription
its g c free binds =
    let statement = c.args.statement.now in
    let now = c.timing_of-timing.ensures ∙ ap (timed statement) (c.instant.ensures ∙ ap (λ (b : BookState). b.instant) c.book-2.ensures ∙ ap (λ (e : EngineState). e.clock) c.self.view_is) in
    subscription_of_it c.args.self.now (handed_in c.args.handlers.now.items.items (λ h. h.name) (λ h. h.kind) c.args.handlers.now.predicates.items (λ p. p.name) (λ p. p.relation)) c.requires.handlers statement c.in-Ok.query c.in-Some.action c.timing_of-timing.result c.in_ok-subscription.subscription now c.in_ok-subscription.ensures
    c.requires.whole binds c.in-Ok.ensures.formed c.in-Some.ensures.within c.in-Some.ensures.some.0 c.in-Some.ensures.named c.in-Some.ensures.some.1 free (sym c.is_expired.ensures ∙ c.if-is_expired.false)

pub returns-then-has-clause-applies : goal.returns-then-has-clause-applies
returns-then-has-clause-applies g c =
    let at = goal.at.returns-then-has-clause-applies g c in
    create_taken c.args.self.now c.args.statement.now c.args.out.now.items c.refuse.result c.refuse.new.self c.refuse.ensures.counted c.refuse.ensures.refused (has_is g at.After-has ∙ c.if-has.true)

pub returns-in-Err-clause-applies : goal.returns-in-Err-clause-applies
returns-in-Err-clause-applies g c =
    let at = goal.at.returns-in-Err-clause-applies g c in
    let asked = (λ i. relations (c.predicates.ensures i).items (λ p. p.name) (λ p. p.relation)) ∙ sym (ap (λ (k : Handed). k.relations) c.requires.handlers) in
    let declared = ap (λ (e : EngineState). e.store) c.self.view_is in
    create_unbound c.args.self.now c.args.statement.now c.args.out.now.items c.refuse_query.result c.refuse_query.new.self c.in-Err.error c.refuse_query.ensures.counted c.refuse_query.ensures.same c.refuse_query.ensures.refused (has_is g at.After-has ∙ c.if-has.false)
    (subst (λ (p : Relations × StoreState). Binds p.0 c.args.statement.now.query (roots_in p.1) (Err c.in-Err.error)) (λ i. (asked i, declared i)) c.in-Err.ensures.answer)

pub returns-in_default-clause-applies : goal.returns-in_default-clause-applies
returns-in_default-clause-applies g c =
    let at = goal.at.returns-in_default-clause-applies g c in
    let odd = subst (λ (ls : Handed). is_at_odds (kind_in c.args.statement.now.action ls.labels) c.args.statement.now.argument ≡ true) (sym c.requires.handlers) c.in_default.ensures.none in
    create_odd c.args.self.now c.args.statement.now c.args.out.now.items c.refuse-in_default.result c.refuse-in_default.new.self c.refuse-in_default.ensures.counted c.refuse-in_default.ensures.refused (has_is g at.After-has ∙ c.if-has.false)
    c.in-Ok.query (binds g at.In-Ok) odd

pub returns-then-is_expired-clause-applies : goal.returns-then-is_expired-clause-applies
returns-then-is_expired-clause-applies g c =
    let at = goal.at.returns-then-is_expired-clause-applies g c in
    let statement = c.args.statement.now in
    let fits = subst (λ (ls : Handed). is_at_odds (kind_in statement.action ls.labels) statement.argument ≡ false) (sym c.requires.handlers)
    (ap (λ k. is_at_odds k statement.argument) (sym c.in-Some.ensures.some.0) ∙ c.in-Some.ensures.some.1) in
    let now = c.timing_of-timing.ensures ∙ ap (timed statement) (c.instant.ensures ∙ ap (λ (b : BookState). b.instant) c.book-2.ensures ∙ ap (λ (e : EngineState). e.clock) c.self.view_is) in
    create_late c.args.self.now statement c.args.out.now.items c.refuse-then-is_expired.result c.refuse-then-is_expired.new.self c.refuse-then-is_expired.ensures.counted c.refuse-then-is_expired.ensures.refused (has_is g at.After-has ∙ c.if-has.false)
    c.in-Ok.query (binds g at.In-Ok) fits (subst (λ (t : Timing). is_expired t t.start ≡ true) now (sym c.is_expired.ensures ∙ c.if-is_expired.true))

pub join-requires-clause-some : goal.join-requires-clause-some
join-requires-clause-some g c =
    let at = goal.at.join-requires-clause-some g c in
    (c.args.statement.now, its g at.In_ok-subscription (has_is g at.After-has ∙ c.if-has.false) (binds g at.In-Ok))

pub returns-clause-applies : goal.returns-clause-applies
returns-clause-applies g c =
    let at = goal.at.returns-clause-applies g c in
    c.join.ensures.applies c.args.statement.now (its g at.In_ok-subscription (has_is g at.After-has ∙ c.if-has.false) (binds g at.In-Ok))

pub returns-clause-work : goal.returns-clause-work
returns-clause-work g c =
    let at = goal.at.returns-clause-work g c in
    c.join.ensures.work c.args.statement.now (its g at.In_ok-subscription (has_is g at.After-has ∙ c.if-has.false) (binds g at.In-Ok))

pub returns-then-has-clause-work : goal.returns-then-has-clause-work
returns-then-has-clause-work g c = λ h stands bound work. omega arith

pub returns-in-Err-clause-work : goal.returns-in-Err-clause-work
returns-in-Err-clause-work g c = λ h stands bound work. omega arith

pub returns-in_default-clause-work : goal.returns-in_default-clause-work
returns-in_default-clause-work g c = λ h stands bound work. omega arith

pub returns-then-is_expired-clause-work : goal.returns-then-is_expired-clause-work
returns-then-is_expired-clause-work g c = λ h stands bound work. omega arith

pub returns-in_err-subscription-clause-work : goal.returns-in_err-subscription-clause-work
returns-in_err-subscription-clause-work g c = λ h stands bound work. omega arith

-- what is kept of what was told is kept still
pub returns-then-has-clause-cached : goal.returns-then-has-clause-cached
returns-then-has-clause-cached g c = keeps_counted c.args.self.now c.refuse.new.self (c.args.self.now.count + 1) c.refuse.ensures.counted

pub returns-in-Err-clause-cached : goal.returns-in-Err-clause-cached
returns-in-Err-clause-cached g c =
    keeps_refused (query_refusal c.in-Err.error) c.args.self.now c.refuse_query.new.self (c.args.self.now.count + 1) c.refuse_query.ensures.counted c.refuse_query.ensures.same

pub returns-in_default-clause-cached : goal.returns-in_default-clause-cached
returns-in_default-clause-cached g c = keeps_counted c.args.self.now c.refuse-in_default.new.self (c.args.self.now.count + 1) c.refuse-in_default.ensures.counted

pub returns-then-is_expired-clause-cached : goal.returns-then-is_expired-clause-cached
returns-then-is_expired-clause-cached g c = keeps_counted c.args.self.now c.refuse-then-is_expired.new.self (c.args.self.now.count + 1) c.refuse-then-is_expired.ensures.counted

pub returns-in_err-subscription-clause-cached : goal.returns-in_err-subscription-clause-cached
returns-in_err-subscription-clause-cached g c = keeps_itself c.args.self.now
