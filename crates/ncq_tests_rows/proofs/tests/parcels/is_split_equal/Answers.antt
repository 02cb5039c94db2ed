use Rattle.ncq_midfile.specs.Shown.{rows_below}
use Rattle.ncq_tests_rows.proofs.HistoryLaws.{one_some}
use Rattle.ncq_tests_rows.proofs.tests.parcels.is_split_equal.Goals as goal

pub split_equal-requires-clause-slots : goal.split_equal-requires-clause-slots
split_equal-requires-clause-slots g c = one_some (rows_below c.args.input.now) c.requires.one
