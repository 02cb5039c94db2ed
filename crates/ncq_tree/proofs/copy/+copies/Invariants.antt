use Rattle.std.proofs.Common.{◌≡◌, take}
use Rattle.ncq_tree.proofs.copy.+copies.Given as goal

abbrev pub invariant-copy_forest-loop-node : goal.invariant-copy_forest-loop-node
invariant-copy_forest-loop-node l = l.copy ≡ take l.node-index l.forest
