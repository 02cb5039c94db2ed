use Rattle.ncq_bind.proofs.AnswerLaws.{proper_answers}
use Rattle.ncq_bind.proofs.laws.answers_are_proper.Goals as goal

pub returns : goal.returns
returns c = proper_answers
