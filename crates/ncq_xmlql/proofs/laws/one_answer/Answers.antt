use Rattle.ncq_xmlql.proofs.Exact.{exact_is_given}
use Rattle.ncq_xmlql.proofs.laws.one_answer.Goals as goal

pub returns : goal.returns
returns c = exact_is_given
