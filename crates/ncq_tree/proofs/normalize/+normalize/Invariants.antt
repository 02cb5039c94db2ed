use Rattle.std.proofs.Common.{◌≡◌, ◌++◌, length, map}
use Rattle.std.specs.Vec.Iter.{into_iter_items, into_iter_len}
use Rattle.ncq_tree.specs.Normal.{normal_of, tidy, tidy_behind}
use Rattle.ncq_tree.proofs.normalize.+normalize.Given as goal

-- what stands, with what the nodes that are left give behind the texts that are kept
abbrev pub invariant-normal-loop-node : goal.invariant-normal-loop-node
invariant-normal-loop-node l = record {
  nodes : l.out ++ tidy_behind l.pending (map normal_of (into_iter_items l.node-iterator)) ≡ tidy (map normal_of (into_iter_items l.initial.node-iterator));
  left : into_iter_len l.node-iterator ≡ length (into_iter_items l.node-iterator);
}
