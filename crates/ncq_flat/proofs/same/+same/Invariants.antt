use Rattle.std.proofs.Common.{drop}
use Rattle.std.specs.List.{list_all}
use Rattle.ncq_pyx.specs.Canonical.{pyx, is_named}
use Rattle.ncq_flat.proofs.RestLaws.{SameRests}
use Rattle.ncq_flat.proofs.same.+same.Given as goal

-- what is left decides
abbrev pub invariant-behind_nodes-loop-node : goal.invariant-behind_nodes-loop-node
invariant-behind_nodes-loop-node l =
    SameRests (list_all is_named l.forest) (pyx l.forest) l.text
    (list_all is_named (drop l.node-index l.forest)) (pyx (drop l.node-index l.forest)) l.rest
