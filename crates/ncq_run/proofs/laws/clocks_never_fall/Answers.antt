use Rattle.std.proofs.Common.{[]}
use Rattle.ncq_run.proofs.ClockLaws.{histories_rise}
use Rattle.ncq_run.proofs.laws.clocks_never_fall.Goals as goal

pub returns : goal.returns
returns c = λ language commands. histories_rise language commands [] tt
