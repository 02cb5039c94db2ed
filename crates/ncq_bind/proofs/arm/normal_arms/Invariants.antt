use Rattle.std.proofs.Common.{◌≡◌, map}
use Rattle.ncq_bind.specs.NormalArms.{normal_arm}
use Rattle.ncq_bind.proofs.arm.normal_arms.Given as goal

abbrev pub invariant-loop-arm : goal.invariant-loop-arm
invariant-loop-arm l = l.normal ≡ map (normal_arm l.constraints) l.yielded
