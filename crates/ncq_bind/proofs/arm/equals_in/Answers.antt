use Rattle.std.proofs.Common.{ap, sym, ◌∙◌}
use Rattle.ncq_bind.specs.Sorted.{sorted_onto, equal_order}
use Rattle.ncq_bind.specs.NormalArms.{equal_in}
use Rattle.ncq_bind.proofs.SortedLaws.{sorted_more}
use Rattle.ncq_bind.proofs.arm.equals_in.Goals as goal

pub loop-constraint-preserved : goal.loop-constraint-preserved
loop-constraint-preserved c =
    c.in_ok-add_equal.ensures
    ∙ ap (λ v. sorted_onto equal_order v (equal_in c.args.offset c.args.width c.constraint-item.result)) c.loop-constraint.invariant
    ∙ sym (sorted_more equal_order (equal_in c.args.offset c.args.width) c.args.constraints.now c.loop-constraint.constraint-index c.constraint-item.result c.loop-constraint-test.true c.constraint-item.is)
