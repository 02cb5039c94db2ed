use Rattle.std.proofs.Common.{◌∙◌, ap}
use Rattle.ncq_row.specs.Widths.{width}
use Rattle.ncq_plan.proofs.LateLaws.{fit_next, within_next, equals_next}
use Rattle.ncq_plan.proofs.late.with_all_equals.Goals as goal

pub loop-arm-preserved : goal.loop-arm-preserved
loop-arm-preserved c =
    let arms = c.args.arms.now in
    let at = c.loop-arm.arm-index in
    let arm = c.arm-item.result in
    let here = c.loop-arm-test.true in
    let is = c.arm-item.is in
    let offset = c.loop-arm.offset in
    let slots = c.width-offset.result in
    let wide = c.width-offset.ensures ∙ ap width c.get.ensures in
    record {
      selected = equals_next arms at arm here is offset slots wide c.loop-arm.plan c.in_ok-plan.plan c.in_ok-plan.ensures ∙ c.loop-arm.invariant.selected;
      fits = fit_next arms at arm here is offset slots wide c.loop-arm.invariant.fits;
      within = within_next arms at arm here is offset slots wide c.loop-arm.invariant.within;
    }
