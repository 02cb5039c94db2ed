use Rattle.std.proofs.Common.{arith, sym}
use Rattle.ncq_book.proofs.QuestionLaws.{below_found, own_question}
use Rattle.ncq_book.proofs.questions.question_of.Goals as goal

pub returns-in_default-clause-alike : goal.returns-in_default-clause-alike
returns-in_default-clause-alike c = own_question c.args.subscriptions.now.entries c.args.subscription.now c.requires.questions c.requires.above

pub returns-in_default-get-clause-alike : goal.returns-in_default-get-clause-alike
returns-in_default-get-clause-alike c = own_question c.args.subscriptions.now.entries c.args.subscription.now c.requires.questions c.requires.above

pub returns-in-Some-get-clause-up_to : goal.returns-in-Some-get-clause-up_to
returns-in-Some-get-clause-up_to c =
    let asked = c.args.subscriptions.now.entries in
    let there = sym c.in-Some-get.ensures.value in
    let up = c.requires.questions.up_to c.in-Some.install c.in-Some-get.held.now there in
    let below = below_found c.args.subscription.now.install asked c.requires.above c.in-Some.install c.in-Some-get.held.now there in
    omega (arith, c.question.ensures)
