use Rattle.std.proofs.Common.{◌≡◌, drop}
use Rattle.ncq_tree.specs.Normal.{are_apart, are_apart_behind}
use Rattle.ncq_tree.proofs.checks.are_apart.Given as goal

-- what is left decides
abbrev pub invariant-loop-node : goal.invariant-loop-node
invariant-loop-node l = are_apart_behind l.behind (drop l.node-index l.nodes) ≡ are_apart l.nodes
