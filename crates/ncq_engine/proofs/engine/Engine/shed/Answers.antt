use Rattle.std.proofs.Common.{◌≡◌, ◌∙◌, [], ap}
use Rattle.ncq_engine.specs.Stands.{EngineState}
use Rattle.ncq_engine.proofs.BoundLaws.{stands_shed}
use Rattle.ncq_engine.proofs.InvariantLaws.{invariant_cached, none_serve}
use Rattle.ncq_engine.proofs.Views.{view_of}
use Rattle.ncq_engine.proofs.engine.Engine.shed.Goals.{After-clear}
use Rattle.ncq_engine.proofs.engine.Engine.shed.Goals as goal

-- it keeps nothing of what was told
empty : (c : After-clear) → record (view_of c.self.inside) { cache = c.clear.new.self } ≡ record c.args.self.now { cache = [] }
empty c = (λ i. record (view_of c.self.inside) { cache = c.clear.ensures i }) ∙ ap (λ (e : EngineState). record e { cache = [] }) c.self.view_is

pub invariant_of-self : goal.invariant_of-self
invariant_of-self c = invariant_cached (view_of c.self.inside) c.clear.new.self (none_serve (view_of c.self.inside).handed.relations c.self.inside.live_table.table c.clear.new.self c.clear.ensures) c.self.invariant

pub returns-clause-shed : goal.returns-clause-shed
returns-clause-shed c = empty (goal.at.returns-clause-shed c).After-clear

pub returns-clause-stands : goal.returns-clause-stands
returns-clause-stands c = stands_shed c.args.self.now (record (view_of c.self.inside) { cache = c.clear.new.self }) (empty (goal.at.returns-clause-stands c).After-clear)
