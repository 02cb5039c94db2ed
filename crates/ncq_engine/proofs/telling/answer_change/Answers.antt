use Rattle.std.proofs.Common.{◌≡◌, ◌∙◌, ◌++◌, List, ℕ, length, ap, subst}
use Rattle.std.specs.List.{flat_map}
use Rattle.ncq_base.proofs.Written.{front_still}
use Rattle.ncq_book.specs.Books.{BookState, watchers_of}
use Rattle.ncq_callback.specs.Labels.{handed_in}
use Rattle.ncq_event.specs.declared.firing.Firing.{Firing}
use Rattle.ncq_plan.specs.Relations.{relations}
use Rattle.ncq_engine.specs.declared.telling.Answered.{Answered}
use Rattle.ncq_engine.specs.Tellings.{Awaits, firing_name, firing_text, started_at}
use Rattle.ncq_engine.specs.Spans.{spans_of}
use Rattle.ncq_engine.proofs.CachedLaws.{grows_none}
use Rattle.ncq_engine.proofs.telling.answer_change.Goals as goal

pub returns : goal.returns
returns g c =
    let live_table = c.args.live_table.now in
    let slice : c.as_slice-installs.result.now ≡ watchers_of c.args.fed.now live_table.subscriptions = c.as_slice-installs.ensures ∙ c.in_ok-watchers.ensures ∙ ap (λ (b : BookState). watchers_of c.args.fed.now b.subscriptions) c.book.ensures in
    let text : Firing → List ℕ = firing_text (handed_in c.args.handlers.now.items.items (λ h. h.name) (λ h. h.kind) c.args.handlers.now.predicates.items (λ p. p.name) (λ p. p.relation)) c.args.store.now live_table.table.files c.args.distinct.now live_table.subscriptions in
    let starts : ℕ → List Firing = started_at live_table.instant live_table.subscriptions in
    record {
      cached = c.tell_started.ensures.cached;
      counts = c.tell_started.ensures.counts;
      waiting = subst (λ (ns : List ℕ). Awaits (relations c.args.handlers.now.predicates.items (λ p. p.name) (λ p. p.relation)) c.args.store.now live_table (flat_map starts ns) c.tell_started.new.distinct) slice c.in_ok-spans.ensures.waiting;
      front = front_still c.args.out.now.items _ c.write_accepted.new.out.items c.tell_started.new.out.items c.in_ok-answered.ensures.text c.tell_started.ensures.front;
      told = record {
        written = c.in_ok-spans.ensures.text ∙ (λ i. c.in_ok-answered.ensures.text i ++ flat_map text (flat_map starts (slice i)));
        from = ap (λ (a : Answered). a.from) c.with.ensures ∙ ap (λ (a : Answered). a.from) c.in_ok-answered.ensures.places ∙ ap length c.in_ok-answered.ensures.text;
        to = ap (λ (a : Answered). a.to) c.with.ensures;
        spans = ap (λ (a : Answered). a.spans) c.with.ensures ∙ c.in_ok-spans.ensures.spans
            ∙ (λ i. spans_of (firing_name live_table.subscriptions) text (length (c.in_ok-answered.ensures.text i)) (flat_map starts (slice i)));
      };
    }

pub returns-in_err-spans-clause-front : goal.returns-in_err-spans-clause-front
returns-in_err-spans-clause-front g c = front_still c.args.out.now.items _ c.write_accepted.new.out.items c.tell_started.new.out.items c.in_ok-answered.ensures.text c.tell_started.ensures.front

pub returns-in_err-answered-clause-cached : goal.returns-in_err-answered-clause-cached
returns-in_err-answered-clause-cached g c = grows_none (relations c.args.handlers.now.predicates.items (λ p. p.name) (λ p. p.relation)) c.args.live_table.now.table c.args.cache.now

pub returns-in_err-watchers-clause-cached : goal.returns-in_err-watchers-clause-cached
returns-in_err-watchers-clause-cached g c = grows_none (relations c.args.handlers.now.predicates.items (λ p. p.name) (λ p. p.relation)) c.args.live_table.now.table c.args.cache.now
