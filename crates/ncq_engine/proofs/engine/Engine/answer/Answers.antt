use Rattle.std.proofs.Common.{◌+◌, ◌∙◌, ap, subst, sym}
use Rattle.ncq_script.specs.declared.command.Command.TheVariants.{Create}
use Rattle.ncq_engine.specs.Applies.{Applies}
use Rattle.ncq_engine.specs.Compactions.{IsChange}
use Rattle.ncq_engine.specs.Works.{IsWithinWork}
use Rattle.ncq_engine.proofs.BaseLaws.{answered_more, answered_so}
use Rattle.ncq_engine.proofs.CachedAnswers.{keeps_counted}
use Rattle.ncq_engine.proofs.OneCommand.{batch_applies, batch_work}
use Rattle.ncq_engine.proofs.engine.Engine.answer.Goals as goal

pub returns-in-Delta-clause-work : goal.returns-in-Delta-clause-work
returns-in-Delta-clause-work g c = subst (λ command. IsWithinWork c.args.self.now command c.args.steps.now c.change.new.steps) (sym c.in-Delta.is) c.change.ensures.work

pub returns-in-Create-clause-work : goal.returns-in-Create-clause-work
returns-in-Create-clause-work g c = subst (λ command. IsWithinWork c.args.self.now command c.args.steps.now c.create.new.steps) (ap Create c.get.ensures ∙ sym c.in-Create.is) c.create.ensures.work

pub returns-in-Batch-clause-applies : goal.returns-in-Batch-clause-applies
returns-in-Batch-clause-applies g c =
    subst (λ command. Applies c.args.self.now command c.args.out.now.items c.change-in-Batch.result c.change-in-Batch.new.self c.change-in-Batch.new.out.items) (sym c.in-Batch.is)
    (batch_applies c.in-Batch.sections c.args.self.now c.args.out.now.items c.change-in-Batch.result c.change-in-Batch.new.self c.change-in-Batch.new.out.items c.change-in-Batch.ensures.applies)

pub returns-in-Batch-clause-work : goal.returns-in-Batch-clause-work
returns-in-Batch-clause-work g c =
    subst (λ command. IsWithinWork c.args.self.now command c.args.steps.now c.change-in-Batch.new.steps) (sym c.in-Batch.is)
    (batch_work c.in-Batch.sections c.args.self.now c.args.steps.now c.change-in-Batch.new.steps c.change-in-Batch.ensures.work)

-- a change compacted the worn files, and no other command is a change
pub returns-in-Delta-clause-compacted : goal.returns-in-Delta-clause-compacted
returns-in-Delta-clause-compacted g c = answered_more c.change.result (λ compacted is. compacted) c.change.ensures.compacted

pub returns-in-Batch-clause-compacted : goal.returns-in-Batch-clause-compacted
returns-in-Batch-clause-compacted g c = answered_more c.change-in-Batch.result (λ compacted is. compacted) c.change-in-Batch.ensures.compacted

pub returns-in-Declare-clause-compacted : goal.returns-in-Declare-clause-compacted
returns-in-Declare-clause-compacted g c = answered_so c.declare.result (λ is. absurd (subst IsChange c.in-Declare.is is))

pub returns-in-Create-clause-compacted : goal.returns-in-Create-clause-compacted
returns-in-Create-clause-compacted g c = answered_so c.create.result (λ is. absurd (subst IsChange c.in-Create.is is))

pub returns-in-Delete-clause-compacted : goal.returns-in-Delete-clause-compacted
returns-in-Delete-clause-compacted g c = answered_so c.delete.result (λ is. absurd (subst IsChange c.in-Delete.is is))

pub returns-in-Clock-clause-compacted : goal.returns-in-Clock-clause-compacted
returns-in-Clock-clause-compacted g c = answered_so c.move_clock.result (λ is. absurd (subst IsChange c.in-Clock.is is))

pub returns-in-Report-clause-compacted : goal.returns-in-Report-clause-compacted
returns-in-Report-clause-compacted g c = answered_so c.report.result (λ is. absurd (subst IsChange c.in-Report.is is))

pub returns-in-Malformed-clause-compacted : goal.returns-in-Malformed-clause-compacted
returns-in-Malformed-clause-compacted g c = answered_so c.refuse.result (λ is. absurd (subst IsChange c.in-Malformed.is is))

-- a command that cannot be read leaves what is kept of what was told
pub returns-in-Malformed-clause-cached : goal.returns-in-Malformed-clause-cached
returns-in-Malformed-clause-cached g c = keeps_counted c.args.self.now c.refuse.new.self (c.args.self.now.count + 1) c.refuse.ensures.counted
