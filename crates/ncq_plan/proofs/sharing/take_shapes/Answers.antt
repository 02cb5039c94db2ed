use Rattle.std.proofs.Common.{◌-◌, ◌∙◌, ap, arith, get_or}
use Rattle.std.proofs.Math.ListN.{set}
use Rattle.std.proofs.lemmas.List.{set-get_or}
use Rattle.ncq_plan.specs.declared.query.Arm.{Arm}
use Rattle.ncq_plan.specs.Late.{bare_arm}
use Rattle.ncq_plan.specs.Plans.{arm_plan}
use Rattle.ncq_plan.proofs.SharingLaws.{outermost}
use Rattle.ncq_plan.proofs.sharing.take_shapes.Goals as goal

pub take_shape-requires : goal.take_shape-requires
take_shape-requires c =
    let arm = c.index-arms-at.result in
    let at = c.loop-at.at in
    c.get.ensures
    ∙ (outermost c.args.arms.now at arm c.loop-at.rest.now c.in-Join.left c.in-Join.right c.in-Join.pairs (omega arith) (omega arith)
    (c.index-arms-at.is ∙ ap (λ arms. get_or arms (at - 1) arm) c.loop-at.invariant.same) c.loop-at.invariant.rest c.in-Join.is).1
    ∙ ap (λ (a : Arm). arm_plan (bare_arm a)) c.index-arms-at.is

pub loop-at-preserved : goal.loop-at-preserved
loop-at-preserved c =
    let arm = c.index-arms-at.result in
    let at = c.loop-at.at in
    record {
      same = ap (set c.loop-at.arms (at - 1)) c.take_shape.ensures ∙ set-get_or c.loop-at.arms (at - 1) arm ∙ c.loop-at.invariant.same;
      some = λ h. omega arith;
      rest = c.get-rest.ensures
          ∙ (outermost c.args.arms.now at arm c.loop-at.rest.now c.in-Join.left c.in-Join.right c.in-Join.pairs (omega arith) (omega arith)
          (c.index-arms-at.is ∙ ap (λ arms. get_or arms (at - 1) arm) c.loop-at.invariant.same) c.loop-at.invariant.rest c.in-Join.is).0;
    }
