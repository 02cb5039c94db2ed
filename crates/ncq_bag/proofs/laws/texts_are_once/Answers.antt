use Rattle.ncq_bag.proofs.OnceLaws.{texts_once}
use Rattle.ncq_bag.proofs.laws.texts_are_once.Goals as goal

pub returns : goal.returns
returns g c = texts_once
