use Rattle.ncq_xmlql.proofs.Exact.{answer_is_exact}
use Rattle.ncq_xmlql.proofs.laws.answers_are_exact.Goals as goal

pub returns : goal.returns
returns c = answer_is_exact
