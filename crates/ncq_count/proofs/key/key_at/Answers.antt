use Rattle.ncq_count.proofs.TellLaws.{told_here}
use Rattle.ncq_count.proofs.key.key_at.Goals as goal

pub returns : goal.returns
returns c = λ file at. told_here c.args.shelf.now c.args.number file at c.expr.result.now c.inputs.result c.key_of.result (c.expr.ensures file at) (c.inputs.ensures file at) c.key_of.ensures
