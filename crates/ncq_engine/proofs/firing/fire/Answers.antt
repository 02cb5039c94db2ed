use Rattle.std.proofs.Common.{◌≡◌, subst, sym}
use Rattle.std.specs.Prelude.{Option, IfSome}
use Rattle.ncq_distinct.specs.DistinctTables.{AreRising}
use Rattle.ncq_plan.specs.Relations.{relations}
use Rattle.ncq_engine.specs.Engines.{news_in}
use Rattle.ncq_engine.specs.Tellings.{IsLatest}
use Rattle.ncq_engine.specs.declared.latest.Latest.{Latest}
use Rattle.ncq_engine.proofs.AwaitLaws.{news_rise}
use Rattle.ncq_engine.proofs.KeptLaws.{news_there}
use Rattle.ncq_engine.proofs.firing.fire.Given.{Over}
use Rattle.ncq_engine.proofs.firing.fire.Goals.{In-Some}
use Rattle.ncq_engine.proofs.firing.fire.Goals as goal

pub find_news-requires-clause-can : goal.find_news-requires-clause-can
find_news-requires-clause-can g c = (_, c.requires.can)

-- what was told last is what this subscription is told
is_last : (g : Over) (c : In-Some g) → IsLatest (relations c.args.handlers.now.predicates.items (λ p. p.name) (λ p. p.relation)) c.args.store.now c.args.groups.now c.in-Some.told
is_last g c = subst (λ (o : Option Latest). IfSome o (IsLatest (relations c.args.handlers.now.predicates.items (λ p. p.name) (λ p. p.relation)) c.args.store.now c.args.groups.now)) c.in-Some.is c.find_news.ensures.latest

are_told : (g : Over) (c : In-Some g) → c.in-Some.told.notice.entries ≡ news_in (relations c.args.handlers.now.predicates.items (λ p. p.name) (λ p. p.relation)) c.args.store.now c.args.groups.now.files c.args.subscription.now
are_told g c = news_there (relations c.args.handlers.now.predicates.items (λ p. p.name) (λ p. p.relation)) c.args.store.now c.args.groups.now.files c.args.subscription.now c.find_news.new.latest c.in-Some.told c.in_ok-find_news.ensures.news c.in-Some.is

pub prepare-requires : goal.prepare-requires
prepare-requires g c = record {
  rising = subst AreRising (sym (are_told g (goal.at.prepare-requires g c).In-Some)) (news_rise (relations c.args.handlers.now.predicates.items (λ p. p.name) (λ p. p.relation)) c.args.store.now c.args.groups.now.files c.args.subscription.now);
}
