use Rattle.ncq_report.proofs.LengthLaws.{parts_short}
use Rattle.ncq_report.proofs.laws.loads_are_short.Goals as goal

pub returns : goal.returns
returns c = parts_short
