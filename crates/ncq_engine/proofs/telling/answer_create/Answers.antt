use Rattle.std.proofs.Common.{◌≡◌, ◌∙◌, ◌++◌, ◌∷◌, [], List, ℕ, length, ap, subst, sym}
use Rattle.std.specs.Prelude.{IsSome}
use Rattle.std.specs.List.{flat_map, AllByRecursion}
use Rattle.ncq_base.proofs.Written.{front_still}
use Rattle.ncq_book.specs.Books.{subscription_of}
use Rattle.ncq_callback.specs.Labels.{handed_in}
use Rattle.ncq_event.specs.declared.firing.Firing.{Firing}
use Rattle.ncq_plan.specs.Relations.{relations}
use Rattle.ncq_engine.specs.declared.telling.Answered.{Answered}
use Rattle.ncq_engine.specs.Tellings.{Awaits, firing_name, firing_text, started_at}
use Rattle.ncq_engine.specs.Spans.{spans_of}
use Rattle.ncq_engine.proofs.BookLaws.{started_there}
use Rattle.ncq_engine.proofs.CachedLaws.{grows_none}
use Rattle.ncq_engine.proofs.telling.answer_create.Goals as goal

pub tell-requires-clause-there : goal.tell-requires-clause-there
tell-requires-clause-there g c =
    let live_table = c.args.live_table.now in
    let own : c.in_ok-firings.firings ≡ flat_map (started_at live_table.instant live_table.subscriptions) (c.args.install ∷ []) =
    c.in_ok-firings.ensures ∙ (λ i. flat_map (started_at (c.book.ensures i).instant (c.book.ensures i).subscriptions) (c.args.install ∷ [])) in
    let firings : c.as_slice.result.now ≡ c.in_ok-firings.firings = c.as_slice.ensures in
    subst (λ (fs : List Firing). AllByRecursion (λ (f : Firing). IsSome (subscription_of f.install live_table.subscriptions)) fs) (sym (firings ∙ own)) (started_there live_table.instant live_table.subscriptions (c.args.install ∷ []))

pub returns-clause-told : goal.returns-clause-told
returns-clause-told g c =
    let live_table = c.args.live_table.now in
    let own : c.in_ok-firings.firings ≡ flat_map (started_at live_table.instant live_table.subscriptions) (c.args.install ∷ []) =
    c.in_ok-firings.ensures ∙ (λ i. flat_map (started_at (c.book.ensures i).instant (c.book.ensures i).subscriptions) (c.args.install ∷ [])) in
    let firings : c.as_slice.result.now ≡ c.in_ok-firings.firings = c.as_slice.ensures in
    let text : Firing → List ℕ = firing_text (handed_in c.args.handlers.now.items.items (λ h. h.name) (λ h. h.kind) c.args.handlers.now.predicates.items (λ p. p.name) (λ p. p.relation)) c.args.store.now live_table.table.files c.args.distinct.now live_table.subscriptions in
    record {
      written = c.in_ok-spans.ensures.text ∙ (λ i. c.in_ok-answered.ensures.text i ++ flat_map text (firings i));
      from = ap (λ (a : Answered). a.from) c.with.ensures ∙ ap (λ (a : Answered). a.from) c.in_ok-answered.ensures.places ∙ ap length c.in_ok-answered.ensures.text;
      to = ap (λ (a : Answered). a.to) c.with.ensures;
      spans = ap (λ (a : Answered). a.spans) c.with.ensures ∙ c.in_ok-spans.ensures.spans
          ∙ (λ i. spans_of (firing_name live_table.subscriptions) text (length (c.in_ok-answered.ensures.text i)) (firings i));
    }

pub returns-clause-firings : goal.returns-clause-firings
returns-clause-firings g c =
    let live_table = c.args.live_table.now in
    let own : c.in_ok-firings.firings ≡ flat_map (started_at live_table.instant live_table.subscriptions) (c.args.install ∷ []) =
    c.in_ok-firings.ensures ∙ (λ i. flat_map (started_at (c.book.ensures i).instant (c.book.ensures i).subscriptions) (c.args.install ∷ [])) in
    own

pub returns-clause-waiting : goal.returns-clause-waiting
returns-clause-waiting g c =
    let live_table = c.args.live_table.now in
    let own : c.in_ok-firings.firings ≡ flat_map (started_at live_table.instant live_table.subscriptions) (c.args.install ∷ []) =
    c.in_ok-firings.ensures ∙ (λ i. flat_map (started_at (c.book.ensures i).instant (c.book.ensures i).subscriptions) (c.args.install ∷ [])) in
    let firings : c.as_slice.result.now ≡ c.in_ok-firings.firings = c.as_slice.ensures in
    subst (λ (fs : List Firing). Awaits (relations c.args.handlers.now.predicates.items (λ p. p.name) (λ p. p.relation)) c.args.store.now live_table fs c.tell.new.distinct) (firings ∙ own) c.in_ok-spans.ensures.waiting

pub returns-clause-front : goal.returns-clause-front
returns-clause-front g c = front_still c.args.out.now.items _ c.write_accepted.new.out.items c.tell.new.out.items c.in_ok-answered.ensures.text c.tell.ensures.front

pub returns-in_err-spans-clause-front : goal.returns-in_err-spans-clause-front
returns-in_err-spans-clause-front g c = front_still c.args.out.now.items _ c.write_accepted.new.out.items c.tell.new.out.items c.in_ok-answered.ensures.text c.tell.ensures.front

pub returns-in_err-answered-clause-cached : goal.returns-in_err-answered-clause-cached
returns-in_err-answered-clause-cached g c = grows_none (relations c.args.handlers.now.predicates.items (λ p. p.name) (λ p. p.relation)) c.args.live_table.now.table c.args.cache.now

pub returns-in_err-firings-clause-cached : goal.returns-in_err-firings-clause-cached
returns-in_err-firings-clause-cached g c = grows_none (relations c.args.handlers.now.predicates.items (λ p. p.name) (λ p. p.relation)) c.args.live_table.now.table c.args.cache.now
