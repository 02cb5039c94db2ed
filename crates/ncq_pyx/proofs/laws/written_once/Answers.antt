use Rattle.ncq_pyx.proofs.ByteLaws.{one_text, one_proper}
use Rattle.ncq_pyx.proofs.CanonicalLaws.{one_forest}
use Rattle.ncq_pyx.proofs.laws.written_once.Goals as goal

pub returns : goal.returns
returns c = record { lines = one_forest; bytes = one_text; proper = one_proper }
