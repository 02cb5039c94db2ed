use Rattle.ncq_construct.proofs.ProperLaws.{constructed_is_proper}
use Rattle.ncq_construct.proofs.laws.forests_are_proper.Goals as goal

pub returns : goal.returns
returns c = constructed_is_proper
