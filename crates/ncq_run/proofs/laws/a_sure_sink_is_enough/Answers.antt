use Rattle.ncq_run.proofs.EndLaws.{enough_as}
use Rattle.ncq_run.proofs.laws.a_sure_sink_is_enough.Goals as goal

pub returns : goal.returns
returns c = enough_as
