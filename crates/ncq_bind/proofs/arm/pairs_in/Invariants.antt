use Rattle.std.proofs.Common.{◌≡◌, take, []}
use Rattle.std.specs.List.{flat_map}
use Rattle.ncq_bind.specs.Sorted.{sorted_onto, pair_order}
use Rattle.ncq_bind.specs.NormalArms.{pair_in}
use Rattle.ncq_bind.proofs.arm.pairs_in.Given as goal

abbrev pub invariant-loop-constraint : goal.invariant-loop-constraint
invariant-loop-constraint l = l.pairs.items ≡ sorted_onto pair_order [] (flat_map (pair_in l.offset l.width) (take l.constraint-index l.constraints))
