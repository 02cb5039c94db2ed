use Rattle.std.proofs.Common.{◌≡◌, ◌++◌, take}
use Rattle.ncq_tree.specs.Texts.{texts, following, has_text}
use Rattle.ncq_tree.proofs.text.+texts.Given as goal

abbrev pub invariant-append_forest-loop-node : goal.invariant-append_forest-loop-node
invariant-append_forest-loop-node l = record {
  bytes : l.out.items ≡ l.initial.out.items ++ following l.initial.behind (texts (take l.node-index l.node-items));
  behind : l.behind ≡ has_text l.initial.behind (texts (take l.node-index l.node-items));
}
