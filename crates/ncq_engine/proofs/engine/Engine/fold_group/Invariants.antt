use Rattle.ncq_engine.proofs.MovedBases.{HaveMoved}
use Rattle.ncq_engine.proofs.engine.Engine.fold_group.Given as goal

abbrev pub invariant-loop-sibling : goal.invariant-loop-sibling
invariant-loop-sibling l = HaveMoved l.initial.self l.self
