use Rattle.std.proofs.Common.{◌≡◌, ◌<◌, drop, map}
use Rattle.std.specs.List.{AllByRecursion}
use Rattle.ncq_plan.specs.Late.{equal_behind}
use Rattle.ncq_plan.specs.Plans.{with_equals}
use Rattle.ncq_plan.specs.Products.{arm_width}
use Rattle.ncq_plan.proofs.late.with_equals_behind.Given as goal

abbrev pub invariant-loop-equal : goal.invariant-loop-equal
invariant-loop-equal l = record {
  selected : with_equals l.plan (map (equal_behind l.offset) (drop l.equal-index l.arm.equals)) ≡ with_equals l.fn.input (map (equal_behind l.offset) l.arm.equals);
  within : AllByRecursion (λ equal. equal.slot < arm_width l.arm) (drop l.equal-index l.arm.equals);
}
