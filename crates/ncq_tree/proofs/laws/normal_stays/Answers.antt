use Rattle.ncq_tree.proofs.NormalAgain.{normal_stays}
use Rattle.ncq_tree.proofs.laws.normal_stays.Goals as goal

pub returns : goal.returns
returns c = normal_stays
