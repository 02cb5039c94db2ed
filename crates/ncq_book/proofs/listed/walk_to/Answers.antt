use Rattle.std.proofs.Common.{subst}
use Rattle.std.specs.declared.ops.Bound.TheVariants.{Included, Unbounded}
use Rattle.ncq_book.specs.Questions.{StandEach}
use Rattle.ncq_book.proofs.QuestionLaws.{stand_in_range}
use Rattle.ncq_book.proofs.listed.walk_to.Goals as goal

pub returns-then-next-install-2-clause-ahead : goal.returns-then-next-install-2-clause-ahead
returns-then-next-install-2-clause-ahead c = (subst (StandEach c.args.subscriptions.now.entries) c.in_ok-next.ensures.steps (stand_in_range c.args.subscriptions.now (Included c.args.install) Unbounded c.range.result (c.range.ensures.in_range tt))).1

pub returns-else-next-install-2-clause-ahead : goal.returns-else-next-install-2-clause-ahead
returns-else-next-install-2-clause-ahead c = (subst (StandEach c.args.subscriptions.now.entries) c.in_ok-next.ensures.steps (stand_in_range c.args.subscriptions.now (Included c.args.install) Unbounded c.range.result (c.range.ensures.in_range tt))).1
