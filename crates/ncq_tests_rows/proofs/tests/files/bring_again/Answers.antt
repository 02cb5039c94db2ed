use Rattle.std.proofs.lemmas.Result.{on_ok_weaker}
use Rattle.ncq_tests_rows.proofs.HistoryLaws.{one_slot}
use Rattle.ncq_tests_rows.proofs.tests.files.bring_again.Goals as goal

pub returns-clause-wide : goal.returns-clause-wide
returns-clause-wide g c = on_ok_weaker c.bring.result (one_slot c.bring.new.file.rows) c.bring.ensures.one
