use Rattle.std.proofs.Common.{◌≡◌, ◌++◌, ◌∷◌, [], List, ℕ, length, take, get_or, ◌+◌, ◌<◌, ◌≤◌, arith, sym, subst, ◌∙◌, ap, length-append, true≢false}
use Rattle.std.specs.Prelude.{Some, IfSome, IsSome}
use Rattle.std.specs.List.{flat_map}
use Rattle.std.proofs.lemmas.List.{take_more, take_all}
use Rattle.ncq_base.proofs.Written.{front_still}
use Rattle.ncq_book.specs.declared.subscription.Subscription.{Subscription as Kept}
use Rattle.ncq_book.specs.Books.{BookState, subscription_of}
use Rattle.ncq_callback.specs.Labels.{Handed, handed_in}
use Rattle.ncq_distinct.specs.DistinctTables.{DistinctTable}
use Rattle.ncq_event.specs.declared.firing.Firing.{Firing}
use Rattle.ncq_group.specs.Tables.{TableState}
use Rattle.ncq_shelf.specs.KeptFiles.{Files}
use Rattle.ncq_plan.specs.Relations.{relations}
use Rattle.ncq_engine.specs.Cached.{AllServe}
use Rattle.ncq_engine.specs.Engines.{CanTell, notice_text}
use Rattle.ncq_engine.specs.Spans.{span_of, spans_of}
use Rattle.ncq_engine.specs.Tellings.{Awaits, AwaitsNews, IsLatest, firing_name, firing_text}
use Rattle.ncq_engine.proofs.AwaitLaws.{awaits_more, notice_same}
use Rattle.ncq_engine.proofs.CachedLaws.{grown_serve, grows_more}
use Rattle.ncq_engine.proofs.KeptLaws.{latest_keyed}
use Rattle.ncq_engine.proofs.TellingLoops.{each_here, found_has, grows_on, name_found, not_missing, spans_on, text_found, text_on}
use Rattle.ncq_engine.proofs.telling.tell.Goals as goal

pub unreachable-requires : goal.unreachable-requires
unreachable-requires g c =
    let item : Firing = get_or c.args.firings.now c.loop-firing.firing-index (record { instant = 0; install = 0 }) in
    not_missing c.get.result (subscription_of item.install c.args.live_table.now.subscriptions) (c.get.ensures ∙ ap (λ (b : BookState). subscription_of item.install b.subscriptions) c.book.ensures) c.in_default.is
    (each_here (λ (f : Firing). IsSome (subscription_of f.install c.args.live_table.now.subscriptions)) c.args.firings.now c.loop-firing.firing-index (record { instant = 0; install = 0 }) c.loop-firing-test.true c.requires.there)

pub fire-requires : goal.fire-requires
fire-requires g c =
    let all : Handed = handed_in c.args.handlers.now.items.items (λ h. h.name) (λ h. h.kind) c.args.handlers.now.predicates.items (λ p. p.name) (λ p. p.relation) in
    let item : Firing = get_or c.args.firings.now c.loop-firing.firing-index (record { instant = 0; install = 0 }) in
    let found : subscription_of item.install c.args.live_table.now.subscriptions ≡ Some c.in-Some.subscription.now = sym (c.in-Some.ensures ∙ ap (λ (b : BookState). subscription_of item.install b.subscriptions) c.book.ensures) in
    record {
      can = subst (λ (t : TableState). CanTell all c.args.store.now t c.in-Some.subscription.now) (sym c.groups.ensures)
          (found_has (CanTell all c.args.store.now c.args.live_table.now.table) item.install c.args.live_table.now.subscriptions c.in-Some.subscription.now c.requires.can found);
      latest = subst (λ (t : TableState). IfSome c.loop-firing.latest (IsLatest (relations c.args.handlers.now.predicates.items (λ p. p.name) (λ p. p.relation)) c.args.store.now t)) (sym c.groups.ensures) c.loop-firing.invariant.latest;
      serve = subst (λ (t : TableState). AllServe (relations c.args.handlers.now.predicates.items (λ p. p.name) (λ p. p.relation)) t c.loop-firing.cache) (sym c.groups.ensures)
          (grown_serve (relations c.args.handlers.now.predicates.items (λ p. p.name) (λ p. p.relation)) c.args.live_table.now.table c.args.cache.now c.loop-firing.cache c.requires.serve c.loop-firing.invariant.cached);
      known = λ h. absurd (true≢false (sym h));
    }

pub loop-firing-preserved : goal.loop-firing-preserved
loop-firing-preserved g c =
    let all : Handed = handed_in c.args.handlers.now.items.items (λ h. h.name) (λ h. h.kind) c.args.handlers.now.predicates.items (λ p. p.name) (λ p. p.relation) in
    let store = c.args.store.now in
    let files : Files = c.args.live_table.now.table.files in
    let subscriptions : List Kept = c.args.live_table.now.subscriptions in
    let firings = c.args.firings.now in
    let at = c.loop-firing.firing-index in
    let here : at < length firings = c.loop-firing-test.true in
    let item : Firing = get_or firings at (record { instant = 0; install = 0 }) in
    let one : take (at + 1) firings ≡ take at firings ++ item ∷ [] = take_more firings at (record { instant = 0; install = 0 }) here in
    let m : Kept = c.in-Some.subscription.now in
    let found : Some m ≡ subscription_of item.install subscriptions = c.in-Some.ensures ∙ ap (λ (b : BookState). subscription_of item.install b.subscriptions) c.book.ensures in
    let before_it : DistinctTable = c.loop-firing.distinct in
    let first : DistinctTable = c.args.distinct.now in
    let text : notice_text all store c.groups.result.now.files before_it m item.instant ≡ firing_text all store files first subscriptions item =
    ap (λ (t : TableState). notice_text all store t.files before_it m item.instant) c.groups.ensures ∙ notice_same all store files first before_it c.loop-firing.invariant.counts m item.instant
    ∙ text_found all store files first subscriptions item m found in
    let waits : AwaitsNews (relations c.args.handlers.now.predicates.items (λ p. p.name) (λ p. p.relation)) store files m before_it c.fire.new.distinct = subst (λ (t : TableState). AwaitsNews (relations c.args.handlers.now.predicates.items (λ p. p.name) (λ p. p.relation)) store t.files m before_it c.fire.new.distinct) c.groups.ensures c.in_ok-fire.ensures.waiting in
    let before : List ℕ = c.loop-firing.out.items in
    let after : List ℕ = c.fire.new.out.items in
    let written : after ≡ before ++ firing_text all store files first subscriptions item = c.in_ok-fire.ensures.text ∙ ap (λ (l : List ℕ). before ++ l) text in
    let name : m.name ≡ firing_name subscriptions item = name_found subscriptions item m found in
    let placed : c.fire.new.spans ≡ c.loop-firing.spans ++ span_of (firing_name subscriptions item) (length before) (firing_text all store files first subscriptions item) =
    c.in_ok-fire.ensures.span ∙ (λ i. c.loop-firing.spans ++ span_of (name i) (length before) (text i)) in
    record {
      text = text_on firings at item one (firing_text all store files first subscriptions) c.args.out.now.items before after c.loop-firing.invariant.text written;
      spans = spans_on firings at item one (firing_name subscriptions) (firing_text all store files first subscriptions) (length c.args.out.now.items) (length before) c.loop-firing.spans c.fire.new.spans c.loop-firing.invariant.spans
          (ap length c.loop-firing.invariant.text ∙ length-append c.args.out.now.items (flat_map (firing_text all store files first subscriptions) (take at firings))) placed;
      latest = subst (λ (t : TableState). IfSome c.fire.new.latest (IsLatest (relations c.args.handlers.now.predicates.items (λ p. p.name) (λ p. p.relation)) store t)) c.groups.ensures c.fire.ensures.latest;
      cached = grows_on (relations c.args.handlers.now.predicates.items (λ p. p.name) (λ p. p.relation)) c.args.live_table.now.table c.groups.result.now c.groups.ensures c.args.cache.now c.loop-firing.cache c.fire.new.cache c.loop-firing.invariant.cached c.fire.ensures.cached;
      counts = λ any. c.fire.ensures.counts any ∙ c.loop-firing.invariant.counts any;
      waiting = subst (λ (fs : List Firing). Awaits (relations c.args.handlers.now.predicates.items (λ p. p.name) (λ p. p.relation)) store c.args.live_table.now fs c.fire.new.distinct) (sym one)
          (awaits_more (relations c.args.handlers.now.predicates.items (λ p. p.name) (λ p. p.relation)) store c.args.live_table.now item m (sym found) (take at firings) before_it c.fire.new.distinct waits c.loop-firing.invariant.waiting);
    }

pub returns-clause-text : goal.returns-clause-text
returns-clause-text g c =
    let past : length c.args.firings.now ≤ c.loop-firing.firing-index = omega (arith, c.loop-firing-test.false) in
    c.loop-firing.invariant.text
    ∙ ap (λ (fs : List Firing). c.args.out.now.items ++ flat_map (firing_text (handed_in c.args.handlers.now.items.items (λ h. h.name) (λ h. h.kind) c.args.handlers.now.predicates.items (λ p. p.name) (λ p. p.relation)) c.args.store.now c.args.live_table.now.table.files c.args.distinct.now c.args.live_table.now.subscriptions) fs)
    (take_all c.loop-firing.firing-index c.args.firings.now past)

pub returns-clause-spans : goal.returns-clause-spans
returns-clause-spans g c =
    let past : length c.args.firings.now ≤ c.loop-firing.firing-index = omega (arith, c.loop-firing-test.false) in
    let all : Handed = handed_in c.args.handlers.now.items.items (λ h. h.name) (λ h. h.kind) c.args.handlers.now.predicates.items (λ p. p.name) (λ p. p.relation) in
    c.loop-firing.invariant.spans
    ∙ ap (spans_of (firing_name c.args.live_table.now.subscriptions) (firing_text all c.args.store.now c.args.live_table.now.table.files c.args.distinct.now c.args.live_table.now.subscriptions) (length c.args.out.now.items))
    (take_all c.loop-firing.firing-index c.args.firings.now past)

pub returns-in_err-fire-clause-front : goal.returns-in_err-fire-clause-front
returns-in_err-fire-clause-front g c = front_still c.args.out.now.items _ c.loop-firing.out.items c.fire.new.out.items c.loop-firing.invariant.text c.fire.ensures.front

pub returns-in_err-fire-clause-cached : goal.returns-in_err-fire-clause-cached
returns-in_err-fire-clause-cached g c =
    grows_on (relations c.args.handlers.now.predicates.items (λ p. p.name) (λ p. p.relation)) c.args.live_table.now.table c.groups.result.now c.groups.ensures c.args.cache.now c.loop-firing.cache c.fire.new.cache c.loop-firing.invariant.cached c.fire.ensures.cached

pub returns-clause-waiting : goal.returns-clause-waiting
returns-clause-waiting g c =
    let past : length c.args.firings.now ≤ c.loop-firing.firing-index = omega (arith, c.loop-firing-test.false) in
    subst (λ (fs : List Firing). Awaits (relations c.args.handlers.now.predicates.items (λ p. p.name) (λ p. p.relation)) c.args.store.now c.args.live_table.now fs c.loop-firing.distinct) (take_all c.loop-firing.firing-index c.args.firings.now past) c.loop-firing.invariant.waiting

pub returns-in_err-fire-clause-counts : goal.returns-in_err-fire-clause-counts
returns-in_err-fire-clause-counts g c any = c.fire.ensures.counts any ∙ c.loop-firing.invariant.counts any

pub returns-clause-cached : goal.returns-clause-cached
returns-clause-cached g c =
    let table = c.args.live_table.now.table in
    grows_more (relations c.args.handlers.now.predicates.items (λ p. p.name) (λ p. p.relation)) table c.args.cache.now c.loop-firing.cache c.put_back.new.cache c.loop-firing.invariant.cached
    (c.put_back.ensures.cached (relations c.args.handlers.now.predicates.items (λ p. p.name) (λ p. p.relation)) table (latest_keyed (relations c.args.handlers.now.predicates.items (λ p. p.name) (λ p. p.relation)) c.args.store.now table c.loop-firing.latest c.loop-firing.invariant.latest))
