use Rattle.ncq_engine.proofs.PartLaws.{apart_closure, in_closure}
use Rattle.ncq_engine.proofs.laws.closures_are_the_parts.Goals as goal

pub returns-clause-parts : goal.returns-clause-parts
returns-clause-parts c = in_closure

pub returns-clause-once : goal.returns-clause-once
returns-clause-once c = apart_closure
