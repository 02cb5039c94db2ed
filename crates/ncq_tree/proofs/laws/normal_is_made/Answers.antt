use Rattle.ncq_tree.proofs.NormalMade.{normal_made}
use Rattle.ncq_tree.proofs.laws.normal_is_made.Goals as goal

pub returns : goal.returns
returns c = normal_made
