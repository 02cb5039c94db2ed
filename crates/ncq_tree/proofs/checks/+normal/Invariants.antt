use Rattle.std.proofs.Common.{◌≡◌, drop}
use Rattle.std.specs.List.{list_all}
use Rattle.ncq_tree.specs.Normal.{node_is_normal}
use Rattle.ncq_tree.proofs.checks.+normal.Given as goal

-- what is left decides
abbrev pub invariant-are_normal-loop-node : goal.invariant-are_normal-loop-node
invariant-are_normal-loop-node l = list_all node_is_normal (drop l.node-index l.nodes) ≡ list_all node_is_normal l.nodes
