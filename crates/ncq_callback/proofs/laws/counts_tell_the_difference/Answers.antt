use Rattle.ncq_callback.proofs.TellLaws.{counts_tell}
use Rattle.ncq_callback.proofs.laws.counts_tell_the_difference.Goals as goal

pub returns : goal.returns
returns c = counts_tell
