use Rattle.ncq_bind.proofs.BindLaws.{answers_agree}
use Rattle.ncq_bind.proofs.laws.one_answer.Goals as goal

pub returns : goal.returns
returns c = answers_agree
