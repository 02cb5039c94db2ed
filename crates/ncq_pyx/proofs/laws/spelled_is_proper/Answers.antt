use Rattle.ncq_pyx.proofs.ReadLaws.{spelled_proper}
use Rattle.ncq_pyx.proofs.laws.spelled_is_proper.Goals as goal

pub returns : goal.returns
returns c = spelled_proper
