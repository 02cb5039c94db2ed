use Rattle.ncq_report.proofs.LineLaws.{one_list}
use Rattle.ncq_report.proofs.laws.lines_are_one.Goals as goal

pub returns : goal.returns
returns c = one_list
