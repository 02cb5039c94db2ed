use Rattle.std.proofs.Common.{◌≡◌, drop}
use Rattle.ncq_plan.specs.Relations.{relation_in, relations}
use Rattle.ncq_plan.proofs.predicates.relation_of.Given as goal

-- what is left decides
abbrev pub invariant-loop-known : goal.invariant-loop-known
invariant-loop-known g l =
    relation_in l.name (relations (drop l.known-index l.predicates) (λ p. p.name) (λ p. p.relation))
    ≡ relation_in l.name (relations l.predicates (λ p. p.name) (λ p. p.relation))
