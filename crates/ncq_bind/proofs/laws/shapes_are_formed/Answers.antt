use Rattle.ncq_bind.proofs.ShapeFormed.{shape_is_formed_where}
use Rattle.ncq_bind.proofs.laws.shapes_are_formed.Goals as goal

pub returns : goal.returns
returns c = shape_is_formed_where
