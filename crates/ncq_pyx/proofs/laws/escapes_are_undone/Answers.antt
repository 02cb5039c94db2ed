use Rattle.ncq_pyx.proofs.CanonicalLaws.{unescape_escaped}
use Rattle.ncq_pyx.proofs.laws.escapes_are_undone.Goals as goal

pub returns : goal.returns
returns c = unescape_escaped
