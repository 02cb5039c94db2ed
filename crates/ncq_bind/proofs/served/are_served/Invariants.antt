use Rattle.std.proofs.Common.{◌≡◌, drop}
use Rattle.ncq_plan.specs.Relations.{relations}
use Rattle.ncq_bind.specs.Served.{are_served}
use Rattle.ncq_bind.proofs.served.are_served.Given as goal

-- what is left decides
abbrev pub invariant-loop-item : goal.invariant-loop-item
invariant-loop-item g l =
    are_served (relations l.predicates.items (λ p. p.name) (λ p. p.relation)) (drop l.item-index l.items)
    ≡ are_served (relations l.predicates.items (λ p. p.name) (λ p. p.relation)) l.items
