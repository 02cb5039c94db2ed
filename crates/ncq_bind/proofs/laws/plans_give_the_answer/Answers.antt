use Rattle.ncq_bind.proofs.AnswerLaws.{plan_answers}
use Rattle.ncq_bind.proofs.laws.plans_give_the_answer.Goals as goal

pub returns : goal.returns
returns c = plan_answers
