use Rattle.ncq_midfile.specs.Views.{is_within}
use Rattle.ncq_midfile.proofs.ViewLaws.{sound_of_test}
use Rattle.ncq_tests_rows.proofs.tests.views.view_of.Goals as goal

pub returns-in-Some-clause-sound : goal.returns-in-Some-clause-sound
returns-in-Some-clause-sound c = λ n.
    sound_of_test n (is_within c.args.file.now.slot c.in-Some.interval) c.args.file.now.rows (c.requires.sound n)
