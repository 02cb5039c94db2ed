use Rattle.std.proofs.Common.{ap, sym, ◌∙◌}
use Rattle.ncq_bind.specs.Sorted.{sorted_onto, pair_order}
use Rattle.ncq_bind.specs.NormalArms.{pair_in}
use Rattle.ncq_bind.proofs.SortedLaws.{sorted_more}
use Rattle.ncq_bind.proofs.arm.pairs_in.Goals as goal

pub loop-constraint-preserved : goal.loop-constraint-preserved
loop-constraint-preserved c =
    c.in_ok-add_pair.ensures
    ∙ ap (λ v. sorted_onto pair_order v (pair_in c.args.offset c.args.width c.constraint-item.result)) c.loop-constraint.invariant
    ∙ sym (sorted_more pair_order (pair_in c.args.offset c.args.width) c.args.constraints.now c.loop-constraint.constraint-index c.constraint-item.result c.loop-constraint-test.true c.constraint-item.is)
