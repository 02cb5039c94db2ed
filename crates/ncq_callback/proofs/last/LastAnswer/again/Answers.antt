use Rattle.std.proofs.Common.{ap, ◌∙◌}
use Rattle.ncq_bag.specs.Bags.{added}
use Rattle.ncq_callback.proofs.LastLaws.{added_on}
use Rattle.ncq_callback.proofs.last.LastAnswer.again.Goals as goal

pub returns-clause-counts : goal.returns-clause-counts
returns-clause-counts c = λ counts.
    ap (λ k. added counts k c.step.new.self.times c.step.new.self.gain) c.step.ensures.answer
    ∙ added_on counts c.args.self.now.answer c.args.self.now.times c.step.new.self.times
    c.args.self.now.gain c.step.new.self.gain c.args.gain c.step.ensures.count
