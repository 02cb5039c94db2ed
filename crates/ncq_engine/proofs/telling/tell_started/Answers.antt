use Rattle.std.proofs.Common.{◌≡◌, ◌++◌, List, ℕ, true, false, length, take, ◌+◌, ◌<◌, ◌≤◌, arith, sym, subst, ◌∙◌, ap, length-append}
use Rattle.std.specs.Prelude.{IfSome, nat_le}
use Rattle.std.specs.List.{flat_map}
use Rattle.std.proofs.lemmas.Bool.Decides.{nat_tests}
use Rattle.std.proofs.lemmas.List.{append-nil}
use Rattle.ncq_base.proofs.Written.{front_still}
use Rattle.ncq_book.specs.declared.listed.Listed.{Listed}
use Rattle.ncq_book.specs.declared.subscription.Subscription.{Subscription as Kept}
use Rattle.ncq_book.specs.Books.{AskByQuestion, BookState}
use Rattle.ncq_callback.specs.Labels.{Handed, handed_in}
use Rattle.ncq_event.specs.declared.firing.Firing.{Firing}
use Rattle.ncq_group.specs.Tables.{TableState}
use Rattle.ncq_plan.specs.Relations.{relations}
use Rattle.ncq_engine.specs.Cached.{AllServe}
use Rattle.ncq_engine.specs.Engines.{CanTell, notice_text}
use Rattle.ncq_distinct.specs.DistinctTables.{DistinctTable}
use Rattle.ncq_engine.specs.declared.span.Span.{Span}
use Rattle.ncq_engine.specs.Spans.{span_of, spans_of}
use Rattle.ncq_engine.specs.Tellings.{Awaits, AwaitsNews, IsLatest, firing_name, firing_text, started_at}
use Rattle.ncq_engine.proofs.AwaitLaws.{awaits_none, firing_same}
use Rattle.ncq_engine.proofs.CachedLaws.{grown_serve, grows_more, grows_none}
use Rattle.ncq_engine.proofs.KeptLaws.{latest_keyed}
use Rattle.ncq_engine.proofs.ListedLaws.{IsFound, all_listed, are_listed, asks_last, begun, holds_here, known_alike, later, listed_found, made_with, of_listed}
use Rattle.ncq_engine.proofs.TellingLoops.{found_has, grows_on, spans_onto, spans_started, text_started, texts_onto, waits_started}
use Rattle.ncq_engine.proofs.telling.tell_started.Goals as goal

pub loop-listed-init : goal.loop-listed-init
loop-listed-init g c =
    record {
      text = sym (append-nil c.args.out.now.items);
      spans = c.new-spans.ensures;
      latest = tt;
      asks = tt;
      cached = grows_none (relations c.args.handlers.now.predicates.items (λ p. p.name) (λ p. p.relation)) c.args.live_table.now.table c.args.cache.now;
      counts = c.forget.ensures.counts;
      waiting = awaits_none (relations c.args.handlers.now.predicates.items (λ p. p.name) (λ p. p.relation)) c.args.store.now c.args.live_table.now c.forget.new.self c.forget.ensures.settled;
    }

pub fire-requires : goal.fire-requires
fire-requires g c =
    let all : Handed = (handed_in c.args.handlers.now.items.items (λ h. h.name) (λ h. h.kind) c.args.handlers.now.predicates.items (λ p. p.name) (λ p. p.relation)) in
    let live_table = c.args.live_table.now in
    let list = c.as_slice-listed-items.result.now in
    let at = c.loop-listed.listed-index in
    let here : at < length list = c.loop-listed-test.true in
    let item : Listed = c.listed-item.result in
    let are = are_listed c.args.installs.now list c.in_ok-list.list.items c.book.result.now _ c.as_slice-listed-items.ensures.value c.in_ok-list.ensures.listed c.book.ensures in
    let found = holds_here list at item here c.listed-item.is (λ l. IsFound live_table.subscriptions (of_listed l)) (listed_found live_table.subscriptions c.args.installs.now list are) in
    record {
      can = subst (λ (t : TableState). CanTell all c.args.store.now t (of_listed item)) (sym c.groups.ensures)
          (found_has (CanTell all c.args.store.now live_table.table) (of_listed item).install live_table.subscriptions (of_listed item) c.requires.can found);
      latest = subst (λ (t : TableState). IfSome c.loop-listed.latest (IsLatest (relations c.args.handlers.now.predicates.items (λ p. p.name) (λ p. p.relation)) c.args.store.now t)) (sym c.groups.ensures) c.loop-listed.invariant.latest;
      serve = subst (λ (t : TableState). AllServe (relations c.args.handlers.now.predicates.items (λ p. p.name) (λ p. p.relation)) t c.loop-listed.cache) (sym c.groups.ensures)
          (grown_serve (relations c.args.handlers.now.predicates.items (λ p. p.name) (λ p. p.relation)) live_table.table c.args.cache.now c.loop-listed.cache c.requires.serve c.loop-listed.invariant.cached);
      known = λ h. known_alike list at item here c.listed-item.is c.loop-listed.asked c.loop-listed.latest (c.is_asked-known.ensures h) c.loop-listed.invariant.asks;
    }

pub loop-listed-preserved : goal.loop-listed-preserved
loop-listed-preserved g c =
    let all : Handed = (handed_in c.args.handlers.now.items.items (λ h. h.name) (λ h. h.kind) c.args.handlers.now.predicates.items (λ p. p.name) (λ p. p.relation)) in
    let store = c.args.store.now in
    let live_table = c.args.live_table.now in
    let subscriptions : List Kept = live_table.subscriptions in
    let list = c.as_slice-listed-items.result.now in
    let at = c.loop-listed.listed-index in
    let here : at < length list = c.loop-listed-test.true in
    let item : Listed = c.listed-item.result in
    let m : Kept = of_listed item in
    let are = are_listed c.args.installs.now list c.in_ok-list.list.items c.book.result.now _ c.as_slice-listed-items.ensures.value c.in_ok-list.ensures.listed c.book.ensures in
    let found = holds_here list at c.listed-item.result here c.listed-item.is (λ l. IsFound subscriptions (of_listed l)) (listed_found subscriptions c.args.installs.now list are) in
    let now : c.instant-now.result ≡ live_table.instant = c.instant-now.ensures ∙ ap (λ (b : BookState). b.instant) c.book-2.ensures in
    let in_time : nat_le m.timing.start live_table.instant ≡ true = grind (arith, nat_tests, now, c.if-listed-now.false) in
    let started = begun subscriptions live_table.instant m found in_time in
    let starts : Listed → List Firing = λ l. started_at live_table.instant subscriptions (of_listed l).install in
    let first : DistinctTable = c.args.distinct.now in
    let distinct : DistinctTable = c.loop-listed.distinct in
    let text : Firing → List ℕ = firing_text all store live_table.table.files first subscriptions in
    let told : Firing → List ℕ = firing_text all store live_table.table.files distinct subscriptions in
    let same : told ≡ text = firing_same all store live_table.table.files first distinct c.loop-listed.invariant.counts subscriptions in
    let before : List Firing = flat_map starts (take at list) in
    let after : List Firing = flat_map starts (take (at + 1) list) in
    let more : after ≡ before ++ starts item = made_with list at c.listed-item.result here c.listed-item.is starts in
    let out : List ℕ = c.loop-listed.out.items in
    let spans : List Span = c.loop-listed.spans in
    record {
      text = texts_onto before (starts item) after more text c.args.out.now.items out c.fire.new.out.items c.loop-listed.invariant.text
          (c.in_ok-fire.ensures.text ∙ (λ i. out ++ notice_text all store (c.groups.ensures i).files distinct m (now i)) ∙ ap (λ (t : List ℕ). out ++ t) (sym (text_started all store distinct live_table m.install m found started))
          ∙ ap (λ (f : Firing → List ℕ). out ++ flat_map f (starts item)) same);
      spans = spans_onto before (starts item) after more (firing_name subscriptions) text (length c.args.out.now.items) (length out) spans c.fire.new.spans c.loop-listed.invariant.spans
          (ap length c.loop-listed.invariant.text ∙ length-append c.args.out.now.items (flat_map text before))
          (c.in_ok-fire.ensures.span ∙ (λ i. spans ++ span_of m.name (length out) (notice_text all store (c.groups.ensures i).files distinct m (now i))) ∙ ap (λ (s : List Span). spans ++ s) (sym (spans_started all store distinct live_table m.install m found started (length out)))
          ∙ ap (λ (f : Firing → List ℕ). spans ++ spans_of (firing_name subscriptions) f (length out) (starts item)) same);
      latest = subst (λ (t : TableState). IfSome c.fire.new.latest (IsLatest (relations c.args.handlers.now.predicates.items (λ p. p.name) (λ p. p.relation)) store t)) c.groups.ensures c.fire.ensures.latest;
      asks = asks_last list at item here c.listed-item.is (subst AskByQuestion (sym c.as_slice-listed-items.ensures.value) c.in_ok-list.ensures.alike) c.fire.new.latest c.fire.ensures.alike;
      cached = grows_on (relations c.args.handlers.now.predicates.items (λ p. p.name) (λ p. p.relation)) live_table.table c.groups.result.now c.groups.ensures c.args.cache.now c.loop-listed.cache c.fire.new.cache c.loop-listed.invariant.cached c.fire.ensures.cached;
      counts = λ any. c.fire.ensures.counts any ∙ c.loop-listed.invariant.counts any;
      waiting = subst (λ (fs : List Firing). Awaits (relations c.args.handlers.now.predicates.items (λ p. p.name) (λ p. p.relation)) store live_table fs c.fire.new.distinct) (sym more)
          (waits_started all store distinct live_table m.install m found started distinct c.fire.new.distinct
          (subst (λ (t : TableState). AwaitsNews (relations c.args.handlers.now.predicates.items (λ p. p.name) (λ p. p.relation)) store t.files m distinct c.fire.new.distinct) c.groups.ensures c.in_ok-fire.ensures.waiting) before c.loop-listed.invariant.waiting);
    }

-- one that starts later
pub loop-listed-preserved-then-listed-now : goal.loop-listed-preserved-then-listed-now
loop-listed-preserved-then-listed-now g c =
    let all : Handed = (handed_in c.args.handlers.now.items.items (λ h. h.name) (λ h. h.kind) c.args.handlers.now.predicates.items (λ p. p.name) (λ p. p.relation)) in
    let store = c.args.store.now in
    let live_table = c.args.live_table.now in
    let subscriptions : List Kept = live_table.subscriptions in
    let list = c.as_slice-listed-items.result.now in
    let at = c.loop-listed.listed-index in
    let here : at < length list = c.loop-listed-test.true in
    let m : Kept = of_listed c.listed-item.result in
    let are = are_listed c.args.installs.now list c.in_ok-list.list.items c.book.result.now _ c.as_slice-listed-items.ensures.value c.in_ok-list.ensures.listed c.book.ensures in
    let found = holds_here list at c.listed-item.result here c.listed-item.is (λ l. IsFound subscriptions (of_listed l)) (listed_found subscriptions c.args.installs.now list are) in
    let now : c.instant-now.result ≡ live_table.instant = c.instant-now.ensures ∙ ap (λ (b : BookState). b.instant) c.book-2.ensures in
    let pending : nat_le m.timing.start live_table.instant ≡ false = grind (arith, nat_tests, now, c.if-listed-now.true) in
    let starts : Listed → List Firing = λ l. started_at live_table.instant subscriptions (of_listed l).install in
    let before : List Firing = flat_map starts (take at list) in
    let still : before ≡ flat_map starts (take (at + 1) list) =
    sym (made_with list at c.listed-item.result here c.listed-item.is starts ∙ ap (λ (fs : List Firing). before ++ fs) (later subscriptions live_table.instant m found pending) ∙ append-nil before) in
    let text : Firing → List ℕ = firing_text all store live_table.table.files c.args.distinct.now subscriptions in
    record {
      text = c.loop-listed.invariant.text ∙ ap (λ (fs : List Firing). c.args.out.now.items ++ flat_map text fs) still;
      spans = c.loop-listed.invariant.spans ∙ ap (spans_of (firing_name subscriptions) text (length c.args.out.now.items)) still;
      latest = c.loop-listed.invariant.latest;
      asks = c.loop-listed.invariant.asks;
      cached = c.loop-listed.invariant.cached;
      counts = c.loop-listed.invariant.counts;
      waiting = subst (λ (fs : List Firing). Awaits (relations c.args.handlers.now.predicates.items (λ p. p.name) (λ p. p.relation)) store live_table fs c.loop-listed.distinct) still c.loop-listed.invariant.waiting;
    }

pub returns-clause-text : goal.returns-clause-text
returns-clause-text g c =
    let live_table = c.args.live_table.now in
    let list = c.as_slice-listed-items.result.now in
    let past : length list ≤ c.loop-listed.listed-index = omega (arith, c.loop-listed-test.false) in
    let are = are_listed c.args.installs.now list c.in_ok-list.list.items c.book.result.now _ c.as_slice-listed-items.ensures.value c.in_ok-list.ensures.listed c.book.ensures in
    c.loop-listed.invariant.text
    ∙ ap (λ (fs : List Firing). c.args.out.now.items ++ flat_map (firing_text (handed_in c.args.handlers.now.items.items (λ h. h.name) (λ h. h.kind) c.args.handlers.now.predicates.items (λ p. p.name) (λ p. p.relation)) c.args.store.now live_table.table.files c.args.distinct.now live_table.subscriptions) fs)
    (all_listed live_table.subscriptions live_table.instant c.args.installs.now list are c.loop-listed.listed-index past)

pub returns-clause-spans : goal.returns-clause-spans
returns-clause-spans g c =
    let live_table = c.args.live_table.now in
    let list = c.as_slice-listed-items.result.now in
    let past : length list ≤ c.loop-listed.listed-index = omega (arith, c.loop-listed-test.false) in
    let are = are_listed c.args.installs.now list c.in_ok-list.list.items c.book.result.now _ c.as_slice-listed-items.ensures.value c.in_ok-list.ensures.listed c.book.ensures in
    c.loop-listed.invariant.spans
    ∙ ap (spans_of (firing_name live_table.subscriptions) (firing_text (handed_in c.args.handlers.now.items.items (λ h. h.name) (λ h. h.kind) c.args.handlers.now.predicates.items (λ p. p.name) (λ p. p.relation)) c.args.store.now live_table.table.files c.args.distinct.now live_table.subscriptions) (length c.args.out.now.items))
    (all_listed live_table.subscriptions live_table.instant c.args.installs.now list are c.loop-listed.listed-index past)

pub returns-clause-waiting : goal.returns-clause-waiting
returns-clause-waiting g c =
    let live_table = c.args.live_table.now in
    let list = c.as_slice-listed-items.result.now in
    let past : length list ≤ c.loop-listed.listed-index = omega (arith, c.loop-listed-test.false) in
    let are = are_listed c.args.installs.now list c.in_ok-list.list.items c.book.result.now _ c.as_slice-listed-items.ensures.value c.in_ok-list.ensures.listed c.book.ensures in
    subst (λ (fs : List Firing). Awaits (relations c.args.handlers.now.predicates.items (λ p. p.name) (λ p. p.relation)) c.args.store.now live_table fs c.loop-listed.distinct)
    (all_listed live_table.subscriptions live_table.instant c.args.installs.now list are c.loop-listed.listed-index past) c.loop-listed.invariant.waiting

pub returns-clause-cached : goal.returns-clause-cached
returns-clause-cached g c =
    let table = c.args.live_table.now.table in
    grows_more (relations c.args.handlers.now.predicates.items (λ p. p.name) (λ p. p.relation)) table c.args.cache.now c.loop-listed.cache c.put_back.new.cache c.loop-listed.invariant.cached
    (c.put_back.ensures.cached (relations c.args.handlers.now.predicates.items (λ p. p.name) (λ p. p.relation)) table (latest_keyed (relations c.args.handlers.now.predicates.items (λ p. p.name) (λ p. p.relation)) c.args.store.now table c.loop-listed.latest c.loop-listed.invariant.latest))

pub returns-in_err-fire-clause-front : goal.returns-in_err-fire-clause-front
returns-in_err-fire-clause-front g c = front_still c.args.out.now.items _ c.loop-listed.out.items c.fire.new.out.items c.loop-listed.invariant.text c.fire.ensures.front

pub returns-in_err-fire-clause-cached : goal.returns-in_err-fire-clause-cached
returns-in_err-fire-clause-cached g c =
    grows_on (relations c.args.handlers.now.predicates.items (λ p. p.name) (λ p. p.relation)) c.args.live_table.now.table c.groups.result.now c.groups.ensures c.args.cache.now c.loop-listed.cache c.fire.new.cache c.loop-listed.invariant.cached c.fire.ensures.cached

pub returns-in_err-fire-clause-counts : goal.returns-in_err-fire-clause-counts
returns-in_err-fire-clause-counts g c any = c.fire.ensures.counts any ∙ c.loop-listed.invariant.counts any
