use Rattle.std.proofs.Common.{append_assoc}
use Rattle.ncq_report.proofs.load.write_area_create.Goals as goal

pub returns-clause-ok : goal.returns-clause-ok
returns-clause-ok c = simp append_assoc (simp append_assoc at c.write_filled.ensures.ok)
