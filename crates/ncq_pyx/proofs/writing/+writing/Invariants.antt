use Rattle.std.proofs.Common.{◌≡◌, ◌++◌, drop, take, length}
use Rattle.ncq_pyx.specs.Canonical.{pyx}
use Rattle.ncq_pyx.proofs.writing.+writing.Given as goal

-- what is left decides
abbrev pub invariant-write_nodes-loop-node : goal.invariant-write_nodes-loop-node
invariant-write_nodes-loop-node l = record {
  left : l.out.items ++ pyx (drop l.node-index l.forest) ≡ l.initial.out.items ++ pyx l.forest;
  front : take (length l.initial.out.items) l.out.items ≡ l.initial.out.items;
}
