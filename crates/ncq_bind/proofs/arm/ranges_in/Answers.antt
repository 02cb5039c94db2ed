use Rattle.std.proofs.Common.{ap, sym, ◌∙◌}
use Rattle.ncq_bind.specs.Ranges.{ranges_onto}
use Rattle.ncq_bind.specs.NormalArms.{range_in}
use Rattle.ncq_bind.proofs.SortedLaws.{ranges_more}
use Rattle.ncq_bind.proofs.arm.ranges_in.Goals as goal

pub loop-constraint-preserved : goal.loop-constraint-preserved
loop-constraint-preserved c =
    c.in_ok-add_range.ensures
    ∙ ap (λ v. ranges_onto v (range_in c.args.offset c.args.width c.constraint-item.result)) c.loop-constraint.invariant
    ∙ sym (ranges_more (range_in c.args.offset c.args.width) c.args.constraints.now c.loop-constraint.constraint-index c.constraint-item.result c.loop-constraint-test.true c.constraint-item.is)
