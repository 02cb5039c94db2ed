use Rattle.std.proofs.lemmas.Bool.Decides.{same_from_decides}
use Rattle.ncq_path.specs.Formed.{is_formed}
use Rattle.ncq_tests_rows.proofs.ShapeLaws.{formed_decides}
use Rattle.ncq_tests_rows.proofs.tests.making.is_formed.Goals as goal

pub returns : goal.returns
returns c = same_from_decides c.is_well_formed.result (is_formed c.args.path.now) c.is_well_formed.ensures (formed_decides c.args.path.now)
