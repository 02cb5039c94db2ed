use Rattle.ncq_midfile.specs.Shown.{rows_below}
use Rattle.ncq_tests_rows.proofs.HistoryLaws.{one_slot}
use Rattle.ncq_tests_rows.proofs.tests.views.has_left.Goals as goal

pub matching-requires-clause-slots : goal.matching-requires-clause-slots
matching-requires-clause-slots c = one_slot (rows_below c.args.view.now) c.requires.one
