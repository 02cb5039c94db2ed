use Rattle.std.proofs.Common.{◌≡◌, ◌∙◌, ◌≤◌, List, ap, subst, sym}
use Rattle.std.specs.Prelude.{Option, IfOk, IfSome}
use Rattle.std.specs.FinMap.{get}
use Rattle.std.specs.List.{AllByRecursion}
use Rattle.ncq_cache.specs.Cached.{Cached}
use Rattle.ncq_cache.specs.declared.key.NoticeKey.{NoticeKey}
use Rattle.ncq_midfile.specs.Content.{IsSoundAt}
use Rattle.ncq_midfile.specs.Files.{FileState}
use Rattle.ncq_midfile.specs.Shown.{shown, rows_below}
use Rattle.ncq_midfile.specs.declared.signed.SignedRow.{SignedRow}
use Rattle.ncq_news.specs.News.{entries_of, since_mark}
use Rattle.ncq_plan.specs.Relations.{Relations, relations}
use Rattle.ncq_engine.specs.Cached.{Grows, key_of}
use Rattle.ncq_engine.specs.Engines.{rows_in_file}
use Rattle.ncq_engine.proofs.CachedLaws.{grows_left, grows_none}
use Rattle.ncq_engine.proofs.KeptLaws.{base_mark, base_now, found_told, last_rows, sound_now, wide_rows}
use Rattle.ncq_engine.proofs.latest.look_up.Given.{Over}
use Rattle.ncq_engine.proofs.latest.look_up.Goals as goal
use Rattle.ncq_engine.proofs.latest.look_up.Goals.{In-Some-take, in-Some+in_default-take, in_default}

-- what was found was taken
taken : (g : Over) (c : In-Some-take g) → Grows (relations c.args.handlers.now.predicates.items (λ p. p.name) (λ p. p.relation)) c.args.groups.now c.args.cache.now c.take.new.self
taken g c =
    subst (λ (pairs : List Cached). Grows (relations c.args.handlers.now.predicates.items (λ p. p.name) (λ p. p.relation)) c.args.groups.now c.args.cache.now pairs) (sym c.take.ensures.left) (grows_left (relations c.args.handlers.now.predicates.items (λ p. p.name) (λ p. p.relation)) c.args.groups.now c.in-Some.key c.args.cache.now)

pub returns-in_err-write_down-clause-cached : goal.returns-in_err-write_down-clause-cached
returns-in_err-write_down-clause-cached g c = taken g (goal.at.returns-in_err-write_down-clause-cached g c).In-Some-take

pub returns-in-Some-take : goal.returns-in-Some-take
returns-in-Some-take g c =
    let table = c.args.groups.now in
    let m = c.args.subscription.now in
    let can = c.requires.can.2.0 in
    let key = c.in-Some.key in
    let is : key ≡ key_of m c.args.mark table.number = subst (λ (o : Option NoticeKey). IfSome o (λ k. k ≡ key_of m c.args.mark table.number)) c.in-Some.is c.requires.key in
    record {
      entries = c.write_down.ensures ∙ found_told (relations c.args.handlers.now.predicates.items (λ p. p.name) (λ p. p.relation)) table m c.args.mark can.file can.at key is c.args.cache.now c.requires.serve c.in-Some-take.entries (sym c.in-Some-take.is ∙ c.take.ensures.found);
      cached = taken g (goal.at.returns-in-Some-take g c).In-Some-take;
    }

pub file-file-requires : goal.file-file-requires
file-file-requires g c = record { file = c.requires.can.2.0.file; at = c.requires.can.2.0.at }

pub news-requires : goal.news-requires
news-requires g c =
    let table = c.args.groups.now in
    let can = c.requires.can.2.0 in
    let shows = shown c.file-file.result in
    let is = c.file-file.ensures.content can.file can.at in
    let now = sym c.number.ensures in
    record {
      formed = can.formed;
      wide = wide_rows _ _ table c.args.subscription.now can c.requires.facts shows is (rows_below c.file-file.result) (c.file-file.ensures.wide can.file can.at);
      last = subst (λ n. AllByRecursion (λ (r : SignedRow). r.number ≤ n) shows.rows) now (last_rows _ _ table c.args.subscription.now can c.requires.facts shows is);
      base = subst (λ n. shows.base ≤ n) now (base_now _ _ table c.args.subscription.now can c.requires.facts shows is);
      sound = subst (λ n. IsSoundAt n shows.rows) now (sound_now _ _ table c.args.subscription.now can c.requires.facts shows is);
      mark = base_mark _ _ table c.args.subscription.now can c.requires.facts shows is c.args.mark c.requires.can.2.1;
    }

pub returns-clause-entries : goal.returns-clause-entries
returns-clause-entries g c =
    let m = c.args.subscription.now in
    let files = c.args.groups.now.files in
    let can = c.requires.can.2.0 in
    let rows : (shown c.file-file.result).rows ≡ rows_in_file (get files m.file.0) = ap (λ (f : FileState). f.rows) (c.file-file.ensures.content can.file can.at) ∙ ap rows_in_file (sym can.at) in
    subst (λ (p : Relations × List SignedRow). IfOk c.news.result (λ entries. entries ≡ entries_of p.0 m.query (since_mark c.args.mark p.1)))
    (λ i. (relations (c.predicates.ensures i).items (λ p. p.name) (λ p. p.relation), rows i)) c.news.ensures

pub returns-clause-cached : goal.returns-clause-cached
returns-clause-cached g c =
    let table = c.args.groups.now in
    let old = c.args.cache.now in
    elim c.match-key.branch [
      | in-Some+in_default-take w ↦ subst (λ (pairs : List Cached). Grows (relations c.args.handlers.now.predicates.items (λ p. p.name) (λ p. p.relation)) table old pairs) (sym (w.cache-is ∙ w.take.ensures.left)) (grows_left (relations c.args.handlers.now.predicates.items (λ p. p.name) (λ p. p.relation)) table w.in-Some.key old)
      | in_default w ↦ subst (λ (pairs : List Cached). Grows (relations c.args.handlers.now.predicates.items (λ p. p.name) (λ p. p.relation)) table old pairs) (sym w.cache-is) (grows_none (relations c.args.handlers.now.predicates.items (λ p. p.name) (λ p. p.relation)) table old)
    ]
