-- Each side of a fork has fewer entries than the fork. Only the crate's private clauses cite it.
use Rattle.std.specs.Prelude.{◌≤◌, max, ◌∷◌, length}
use Rattle.std.proofs.Common.{arith, length-append}
use Rattle.ncq_consttab.specs.declared.tree.Node.{Node}
use Rattle.ncq_consttab.specs.declared.tree.Node.TheVariants.{Leaf, Inner}
use Rattle.ncq_consttab.specs.declared.tree.Tree.TheDeep.{deep-Node}
use Rattle.ncq_consttab.specs.Trees.{node_entries}

-- no side is deeper than the node has entries
pub depth_of_node : (n : Node) → max (deep-Node n) 0 ≤ length (node_entries n)
depth_of_node Leaf = omega arith
depth_of_node (Inner fork) = omega (
  arith,
  length-append fork.value.left (fork.value.entry ∷
      fork.value.right),
)
