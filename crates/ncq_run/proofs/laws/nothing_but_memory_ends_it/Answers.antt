use Rattle.ncq_run.proofs.EndLaws.{complete_as}
use Rattle.ncq_run.proofs.laws.nothing_but_memory_ends_it.Goals as goal

pub returns : goal.returns
returns c = complete_as
