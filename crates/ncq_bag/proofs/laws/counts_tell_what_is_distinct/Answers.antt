use Rattle.ncq_bag.proofs.TurnLaws.{tells_distinct}
use Rattle.ncq_bag.proofs.laws.counts_tell_what_is_distinct.Goals as goal

pub returns : goal.returns
returns c = tells_distinct
