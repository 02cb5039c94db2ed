use Rattle.std.proofs.Common.{◌≡◌, drop, map}
use Rattle.ncq_plan.specs.Late.{bare_arm, bare_of}
use Rattle.ncq_plan.specs.Plans.{with_arms}
use Rattle.ncq_plan.proofs.late.bare.Given as goal

abbrev pub invariant-loop-arm : goal.invariant-loop-arm
invariant-loop-arm l = with_arms l.plan (map bare_arm (drop l.arm-index l.arm-items)) ≡ bare_of l.query
