use Rattle.ncq_pyx.proofs.CanonicalLaws.{spells_put}
use Rattle.ncq_pyx.proofs.laws.written_is_read.Goals as goal

pub returns : goal.returns
returns c = spells_put
