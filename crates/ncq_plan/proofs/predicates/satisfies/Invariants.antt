use Rattle.std.proofs.Common.{◌≡◌, drop}
use Rattle.ncq_plan.specs.Relations.{relation_in, relations}
use Rattle.ncq_plan.proofs.predicates.satisfies.Given as goal

-- what is left decides
abbrev pub invariant-loop-predicate : goal.invariant-loop-predicate
invariant-loop-predicate g l =
    relation_in l.name (relations (drop l.predicate-index l.predicates) (λ p. p.name) (λ p. p.relation))
    ≡ relation_in l.name (relations l.predicates (λ p. p.name) (λ p. p.relation))
