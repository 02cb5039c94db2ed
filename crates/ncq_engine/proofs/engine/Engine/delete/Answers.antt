use Rattle.std.proofs.Common.{◌≡◌, ◌∙◌, ◌+◌, ap, refl, subst, sym, Some, None}
use Rattle.std.specs.Prelude.{Ok}
use Rattle.ncq_book.specs.Books.{BookState}
use Rattle.ncq_book.specs.Kept.{install_of}
use Rattle.ncq_script.specs.declared.command.Command.TheVariants.{Delete}
use Rattle.ncq_engine.specs.Applies.{Applies}
use Rattle.ncq_engine.specs.Cached.{KeepsPairs}
use Rattle.ncq_engine.specs.Stands.{EngineState}
use Rattle.ncq_engine.proofs.CachedAnswers.{keeps_counted, keeps_itself, keeps_left}
use Rattle.ncq_engine.proofs.CachedLaws.{grows_none}
use Rattle.ncq_engine.proofs.CommandLaws.{delete_answers, delete_refused, none_named}
use Rattle.ncq_engine.proofs.InvariantLaws.{invariant_counted, left_holds}
use Rattle.ncq_engine.proofs.Views.{view_of}
use Rattle.ncq_engine.proofs.engine.Engine.delete.Goals as goal

pub returns-in_default-clause-applies : goal.returns-in_default-clause-applies
returns-in_default-clause-applies c =
    let absent : install_of c.args.name.now c.args.self.now.subscriptions ≡ None =
    ap (λ (e : EngineState). install_of c.args.name.now e.subscriptions) (sym c.self.view_is) ∙ ap (λ (b : BookState). install_of c.args.name.now b.subscriptions) (sym c.book.ensures) ∙ sym c.in_default.ensures in
    delete_refused c.args.self.now c.args.out.now.items c.refuse.result c.refuse.new.self c.args.out.now.items c.refuse.ensures.counted refl c.args.name.now c.refuse.ensures.refused
    (none_named c.args.name.now c.args.self.now.subscriptions absent)

pub invariant_of-self : goal.invariant_of-self
invariant_of-self c =
    let was = view_of c.self.inside in
    left_holds (record was { count = was.count + 1 }) c.in-Some.install c.take_all.new.live_table c.take_all.new.distinct (invariant_counted was c.self.invariant) c.take_all.ensures.left c.facts-2.ensures.live_table c.take_all.ensures.counts

pub returns-clause-applies : goal.returns-clause-applies
returns-clause-applies c =
    let was = view_of c.self.inside in
    let after = c.take_all.new.live_table in
    let found : install_of c.args.name.now was.subscriptions ≡ Some c.in-Some.install =
    ap (λ (b : BookState). install_of c.args.name.now b.subscriptions) (sym c.book.ensures) ∙ sym c.in-Some.ensures in
    subst (λ (e : EngineState). Applies e (Delete c.args.name.now) c.args.out.now.items (Ok c.in_ok-answered.answered)
    (record was { clock = after.instant; count = was.count + 1; subscriptions = after.subscriptions; table = after.table; distinct = c.take_all.new.distinct }) c.write_accepted.new.out.items) c.self.view_is
    (delete_answers was c.args.name.now c.in-Some.install found c.facts.ensures.rise c.facts.ensures.names
    after c.take_all.ensures.left c.take_all.new.distinct c.take_all.ensures.counts c.args.out.now.items c.in_ok-answered.answered c.write_accepted.new.out.items c.in_ok-answered.ensures.text c.in_ok-answered.ensures.places)

-- what is kept of what was told is kept still
pub returns-in_default-clause-cached : goal.returns-in_default-clause-cached
returns-in_default-clause-cached c = keeps_counted c.args.self.now c.refuse.new.self (c.args.self.now.count + 1) c.refuse.ensures.counted

pub returns-in_err-answered-clause-cached : goal.returns-in_err-answered-clause-cached
returns-in_err-answered-clause-cached c = keeps_itself c.args.self.now

pub returns-clause-cached : goal.returns-clause-cached
returns-clause-cached c =
    let was = view_of c.self.inside in
    let after = c.take_all.new.live_table in
    let left = c.take_all.ensures.left in
    subst (λ (e : EngineState). KeepsPairs e.handed.relations e.table e.cache after.table was.cache) c.self.view_is
    (keeps_left was.handed.relations was.table after.table left.files left.number left.next_file was.cache was.cache (grows_none was.handed.relations was.table was.cache))
