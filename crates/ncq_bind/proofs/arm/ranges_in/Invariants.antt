use Rattle.std.proofs.Common.{◌≡◌, take, []}
use Rattle.std.specs.List.{flat_map}
use Rattle.ncq_bind.specs.Ranges.{ranges_onto}
use Rattle.ncq_bind.specs.NormalArms.{range_in}
use Rattle.ncq_bind.proofs.arm.ranges_in.Given as goal

abbrev pub invariant-loop-constraint : goal.invariant-loop-constraint
invariant-loop-constraint l = l.ranges.items ≡ ranges_onto [] (flat_map (range_in l.offset l.width) (take l.constraint-index l.constraints))
