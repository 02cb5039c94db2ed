use Rattle.std.proofs.Common.{◌≡◌, ◌++◌, ℕ, List, map, take, Bor}
use Rattle.ncq_path.specs.After.{IsAfter}
use Rattle.ncq_tree.specs.declared.model.Element.{Element}
use Rattle.ncq_row.specs.Reached.{reached_behind}
use Rattle.ncq_row.proofs.reach.+reach.Given as goal

-- so far, what the nodes before give
abbrev pub invariant-add_reached-loop-node : goal.invariant-add_reached-loop-node
invariant-add_reached-loop-node l = (tags : List (List ℕ)) → IsAfter l.machine tags l.state
    → map (λ (e : Bor Element). e.now) l.found.items
    ≡ map (λ (e : Bor Element). e.now) l.initial.found.items
    ++ reached_behind l.machine tags (take l.node-index l.nodes)
