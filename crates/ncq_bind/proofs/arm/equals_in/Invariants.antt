use Rattle.std.proofs.Common.{◌≡◌, take, []}
use Rattle.std.specs.List.{flat_map}
use Rattle.ncq_bind.specs.Sorted.{sorted_onto, equal_order}
use Rattle.ncq_bind.specs.NormalArms.{equal_in}
use Rattle.ncq_bind.proofs.arm.equals_in.Given as goal

abbrev pub invariant-loop-constraint : goal.invariant-loop-constraint
invariant-loop-constraint l = l.equals.items ≡ sorted_onto equal_order [] (flat_map (equal_in l.offset l.width) (take l.constraint-index l.constraints))
