use Rattle.std.proofs.Common.{◌≡◌, ◌+◌, ◌≤◌, drop}
use Rattle.ncq_plan.specs.Late.{ranges_from}
use Rattle.ncq_plan.specs.Plans.{with_ranges}
use Rattle.ncq_plan.specs.WellFormed.{ArmsFit, arms_width}
use Rattle.ncq_plan.proofs.late.with_all_ranges.Given as goal

abbrev pub invariant-loop-arm : goal.invariant-loop-arm
invariant-loop-arm l = record {
  selected : with_ranges l.plan (ranges_from l.offset (drop l.arm-index l.arms)) ≡ with_ranges l.fn.input (ranges_from 0 l.arms);
  fits : ArmsFit l.offset (drop l.arm-index l.arms);
  within : l.offset + arms_width (drop l.arm-index l.arms) ≤ 64;
}
