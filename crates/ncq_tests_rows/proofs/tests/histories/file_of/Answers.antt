use Rattle.ncq_tests_rows.proofs.HistoryLaws.{one_slot}
use Rattle.ncq_tests_rows.proofs.tests.histories.file_of.Goals as goal

pub returns-clause-wide : goal.returns-clause-wide
returns-clause-wide g c = one_slot c.loop-at.file.rows c.loop-at.invariant.one
