use Rattle.std.proofs.Common.{◌≡◌, ◌<◌, drop, map}
use Rattle.std.specs.List.{AllByRecursion}
use Rattle.ncq_plan.specs.Late.{range_behind}
use Rattle.ncq_plan.specs.Plans.{with_ranges}
use Rattle.ncq_plan.specs.Products.{arm_width}
use Rattle.ncq_plan.proofs.late.with_ranges_behind.Given as goal

abbrev pub invariant-loop-range : goal.invariant-loop-range
invariant-loop-range l = record {
  selected : with_ranges l.plan (map (range_behind l.offset) (drop l.range-index l.arm.ranges)) ≡ with_ranges l.fn.input (map (range_behind l.offset) l.arm.ranges);
  within : AllByRecursion (λ range. range.slot < arm_width l.arm) (drop l.range-index l.arm.ranges);
}
