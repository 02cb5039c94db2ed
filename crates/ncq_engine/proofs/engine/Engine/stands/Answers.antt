use Rattle.std.proofs.Common.{subst}
use Rattle.ncq_engine.specs.Cached.{AllServe}
use Rattle.ncq_engine.specs.Engines.{KeepsCounts}
use Rattle.ncq_engine.specs.History.{History}
use Rattle.ncq_engine.specs.Stands.{EngineState, Follows, IsBounded}
use Rattle.ncq_engine.proofs.BoundLaws.{bounded}
use Rattle.ncq_engine.proofs.Views.{view_of}
use Rattle.ncq_engine.proofs.engine.Engine.stands.Goals as goal

pub returns-clause-bounded : goal.returns-clause-bounded
returns-clause-bounded c = subst (λ (e : EngineState). (h : History) → Follows e h → IsBounded e h) c.self.view_is (bounded (view_of c.self.inside) c.self.invariant c.shares.ensures.facts)

pub returns-clause-serve : goal.returns-clause-serve
returns-clause-serve c = subst (λ (e : EngineState). AllServe e.handed.relations e.table e.cache) c.self.view_is c.self.invariant.serve

pub returns-clause-counts : goal.returns-clause-counts
returns-clause-counts c = subst (λ (e : EngineState). KeepsCounts e.subscriptions e.distinct) c.self.view_is c.self.invariant.counts
