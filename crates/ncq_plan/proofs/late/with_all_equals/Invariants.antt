use Rattle.std.proofs.Common.{◌≡◌, ◌+◌, ◌≤◌, drop}
use Rattle.ncq_plan.specs.Late.{equals_from}
use Rattle.ncq_plan.specs.Plans.{with_equals}
use Rattle.ncq_plan.specs.WellFormed.{ArmsFit, arms_width}
use Rattle.ncq_plan.proofs.late.with_all_equals.Given as goal

abbrev pub invariant-loop-arm : goal.invariant-loop-arm
invariant-loop-arm l = record {
  selected : with_equals l.plan (equals_from l.offset (drop l.arm-index l.arms)) ≡ with_equals l.fn.input (equals_from 0 l.arms);
  fits : ArmsFit l.offset (drop l.arm-index l.arms);
  within : l.offset + arms_width (drop l.arm-index l.arms) ≤ 64;
}
