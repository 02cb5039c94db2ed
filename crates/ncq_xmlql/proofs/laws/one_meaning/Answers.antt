use Rattle.ncq_xmlql.proofs.StatementLaws.{same_meaning}
use Rattle.ncq_xmlql.proofs.laws.one_meaning.Goals as goal

pub returns : goal.returns
returns c = same_meaning
