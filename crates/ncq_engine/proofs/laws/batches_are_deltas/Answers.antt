use Rattle.std.proofs.Common.{refl}
use Rattle.ncq_engine.proofs.OneCommand.{sections_add_up, same_output}
use Rattle.ncq_engine.specs.History.{sources}
use Rattle.ncq_engine.proofs.laws.batches_are_deltas.Goals as goal

pub returns-clause-alike : goal.returns-clause-alike
returns-clause-alike c = λ s before changed. refl

pub returns-clause-written : goal.returns-clause-written
returns-clause-written c = same_output

pub returns-clause-parts : goal.returns-clause-parts
returns-clause-parts c = λ history first second. sections_add_up first second (sources history)
