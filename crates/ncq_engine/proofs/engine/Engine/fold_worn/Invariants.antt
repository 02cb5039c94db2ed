use Rattle.ncq_engine.proofs.MovedBases.{HaveMoved}
use Rattle.ncq_engine.proofs.engine.Engine.fold_worn.Given as goal

abbrev pub invariant-loop-number : goal.invariant-loop-number
invariant-loop-number l = HaveMoved l.initial.self l.self
