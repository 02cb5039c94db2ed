use Rattle.ncq_pyx.proofs.Proper.{spells_proper}
use Rattle.ncq_pyx.proofs.laws.proper_is_read.Goals as goal

pub returns : goal.returns
returns c = spells_proper
