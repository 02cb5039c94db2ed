use Rattle.ncq_bag.proofs.Tallies.{tally_decides}
use Rattle.ncq_bag.proofs.laws.tallies_decide.Goals as goal

pub returns : goal.returns
returns c = tally_decides
