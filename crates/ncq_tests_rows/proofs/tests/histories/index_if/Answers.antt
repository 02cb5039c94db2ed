use Rattle.ncq_tests_rows.proofs.HistoryLaws.{one_slot}
use Rattle.ncq_tests_rows.proofs.tests.histories.index_if.Goals as goal

pub ensure_index-requires : goal.ensure_index-requires
ensure_index-requires c = one_slot c.args.file.now.rows c.requires
