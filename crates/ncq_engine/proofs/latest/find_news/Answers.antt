use Rattle.std.proofs.Common.{◌≡◌, ◌∙◌, List, refl, subst, sym}
use Rattle.std.specs.Prelude.{Option, Some, IfSome}
use Rattle.ncq_bag.specs.declared.bag.Difference.{Difference}
use Rattle.ncq_book.specs.Books.{AskAlike}
use Rattle.ncq_plan.specs.Relations.{relations}
use Rattle.ncq_engine.specs.Cached.{Grows, IsFresh}
use Rattle.ncq_engine.specs.Tellings.{HasNews, IsKeyed, IsLatest}
use Rattle.ncq_engine.specs.declared.latest.Latest.{Latest}
use Rattle.ncq_engine.proofs.CachedLaws.{grown_serve, grows_more, grows_none}
use Rattle.ncq_engine.proofs.KeptLaws.{fresh_keyed, knows_as, latest_changed, latest_keyed, on_any, serves_as, told_now}
use Rattle.ncq_engine.proofs.latest.find_news.Given.{Over}
use Rattle.ncq_engine.proofs.latest.find_news.Goals as goal
use Rattle.ncq_engine.proofs.latest.find_news.Goals.{After-put_back, in-Some+else-serves, in_default}

-- what was told last went among the others
put : (g : Over) (c : After-put_back g) → Grows (relations c.args.handlers.now.predicates.items (λ p. p.name) (λ p. p.relation)) c.args.groups.now c.args.cache.now c.put_back.new.cache
put g c =
    let store = c.args.store.now in
    let table = c.args.groups.now in
    let still : c.match-latest.latest ≡ c.args.latest.now =
    elim c.match-latest.branch [
      | in-Some+else-serves w ↦ w.latest-is ∙ sym w.in-Some.is
      | in_default w ↦ w.latest-is
    ] in
    c.put_back.ensures.cached (relations c.args.handlers.now.predicates.items (λ p. p.name) (λ p. p.relation)) table (subst (λ (o : Option Latest). IfSome o (IsKeyed (relations c.args.handlers.now.predicates.items (λ p. p.name) (λ p. p.relation)) table)) (sym still) (latest_keyed (relations c.args.handlers.now.predicates.items (λ p. p.name) (λ p. p.relation)) store table c.args.latest.now c.requires.latest))

pub change_of-changed-requires : goal.change_of-changed-requires
change_of-changed-requires g c = (c.requires.can.0, c.args.groups.now, (c.requires.can.1, latest_changed (relations c.args.handlers.now.predicates.items (λ p. p.name) (λ p. p.relation)) c.args.store.now c.args.groups.now c.args.latest.now c.requires.latest))

pub shared_key-requires : goal.shared_key-requires
shared_key-requires g c = record { file = c.requires.can.1.file; at = c.requires.can.1.at }

pub look_up-requires : goal.look_up-requires
look_up-requires g c = record {
  can = (c.requires.can.0, c.args.store.now, (c.requires.can.1, c.mark_at-mark.ensures c.args.store.now c.change_of-changed.ensures));
  facts = c.facts.ensures.facts;
  key = c.in_ok-key.ensures;
  serve = grown_serve (relations c.args.handlers.now.predicates.items (λ p. p.name) (λ p. p.relation)) c.args.groups.now c.args.cache.now c.put_back.new.cache c.requires.serve (put g (goal.at.look_up-requires g c).After-put_back);
}

pub serves-requires : goal.serves-requires
serves-requires g c known = subst (λ (o : Option Latest). IfSome o (λ told. AskAlike told.subscription.now c.args.subscription.now)) c.in-Some.is (c.requires.known known)

pub returns-then-serves : goal.returns-then-serves
returns-then-serves g c =
    let store = c.args.store.now in
    let table = c.args.groups.now in
    let told = c.in-Some.told in
    let is : IsLatest (relations c.args.handlers.now.predicates.items (λ p. p.name) (λ p. p.relation)) store table told = subst (λ (o : Option Latest). IfSome o (IsLatest (relations c.args.handlers.now.predicates.items (λ p. p.name) (λ p. p.relation)) store table)) c.in-Some.is c.requires.latest in
    let m = c.args.subscription.now in
    let same : c.write_down.new.self ≡ told.notice.entries = c.write_down.ensures in
    let now : Latest = record told { notice = record told.notice { entries = c.write_down.new.self } } in
    let news : HasNews (relations c.args.handlers.now.predicates.items (λ p. p.name) (λ p. p.relation)) store table.files m (Some now) = (
      now,
      refl,
      same ∙ serves_as (relations c.args.handlers.now.predicates.items (λ p. p.name) (λ p. p.relation)) store table told m c.mark_at-mark.result is (c.serves.ensures.alike c.if-serves.true) (c.serves.ensures.mark c.if-serves.true) (c.mark_at-mark.ensures store c.change_of-changed.ensures),
    ) in
    record {
      news = on_any c.write_down.result news;
      latest = record {
        changed = is.changed;
        entries = same ∙ is.entries;
        key = subst (λ (entries : List Difference). IfSome told.key (λ key. IsFresh (relations c.args.handlers.now.predicates.items (λ p. p.name) (λ p. p.relation)) table key entries)) (sym same) is.key;
      };
      alike = c.serves.ensures.alike c.if-serves.true;
      cached = grows_none (relations c.args.handlers.now.predicates.items (λ p. p.name) (λ p. p.relation)) table c.args.cache.now;
    }

pub returns-in_err-key-clause-cached : goal.returns-in_err-key-clause-cached
returns-in_err-key-clause-cached g c = put g (goal.at.returns-in_err-key-clause-cached g c).After-put_back

pub returns-in_err-entries-clause-cached : goal.returns-in_err-entries-clause-cached
returns-in_err-entries-clause-cached g c =
    grows_more (relations c.args.handlers.now.predicates.items (λ p. p.name) (λ p. p.relation)) c.args.groups.now c.args.cache.now c.put_back.new.cache c.look_up.new.cache (put g (goal.at.returns-in_err-entries-clause-cached g c).After-put_back) c.look_up.ensures.cached

pub returns : goal.returns
returns g c =
    let store = c.args.store.now in
    let table = c.args.groups.now in
    let m = c.args.subscription.now in
    let own = c.mark_at-mark.ensures store c.change_of-changed.ensures in
    let entries = c.in_ok-entries.entries in
    let are = c.in_ok-entries.ensures.entries in
    record {
      news = (_, refl, told_now c.requires.can.0 (relations c.args.handlers.now.predicates.items (λ p. p.name) (λ p. p.relation)) store table m c.requires.can.1 c.facts.ensures.facts c.mark_at-mark.result own entries are);
      latest = record {
        changed = knows_as c.requires.can.0 store table m c.requires.can.1 c.change_of-changed.result c.change_of-changed.ensures;
        entries = are;
        key = fresh_keyed c.requires.can.0 (relations c.args.handlers.now.predicates.items (λ p. p.name) (λ p. p.relation)) store table m c.requires.can.1 c.facts.ensures.facts c.mark_at-mark.result own entries are c.in_ok-key.key c.in_ok-key.ensures;
      };
      alike = record { file = refl; template = refl; residual = refl };
      cached = grows_more (relations c.args.handlers.now.predicates.items (λ p. p.name) (λ p. p.relation)) table c.args.cache.now c.put_back.new.cache c.look_up.new.cache (put g (goal.at.returns g c).After-put_back) c.look_up.ensures.cached;
    }
