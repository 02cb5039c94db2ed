use Rattle.ncq_midfile.specs.Shown.{rows_below}
use Rattle.ncq_tests_rows.proofs.HistoryLaws.{one_slot}
use Rattle.ncq_tests_rows.proofs.tests.views.is_found_by_atom.Goals as goal

pub matching_atom-requires-clause-slots : goal.matching_atom-requires-clause-slots
matching_atom-requires-clause-slots c = one_slot (rows_below c.args.view.now) c.requires.one
