use Rattle.ncq_midfile.specs.Shown.{rows_below}
use Rattle.ncq_tests_rows.proofs.HistoryLaws.{one_some}
use Rattle.ncq_tests_rows.proofs.tests.views.is_brought.Goals as goal

pub missing_rows-requires-clause-slots : goal.missing_rows-requires-clause-slots
missing_rows-requires-clause-slots g c = one_some (rows_below c.args.input.now) c.requires.one
