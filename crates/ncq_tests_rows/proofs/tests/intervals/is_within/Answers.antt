use Rattle.std.proofs.Common.{arith}
use Rattle.ncq_midfile.specs.Views.{is_within}
use Rattle.ncq_midfile.proofs.ViewLaws.{sound_of_test}
use Rattle.ncq_tests_rows.proofs.HistoryLaws.{each_slot}
use Rattle.ncq_tests_rows.proofs.tests.intervals.is_within.Goals as goal

pub matching_interval-requires-clause-sound : goal.matching_interval-requires-clause-sound
matching_interval-requires-clause-sound c = sound_of_test c.args.n (is_within c.args.file.now.slot c.args.outer.now) c.args.file.now.rows (c.requires.sound c.args.n)

pub matching_interval-requires-clause-slots : goal.matching_interval-requires-clause-slots
matching_interval-requires-clause-slots c = each_slot 1 2 (omega arith) c.args.file.now.rows c.requires.two
