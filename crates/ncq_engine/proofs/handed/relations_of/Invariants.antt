use Rattle.std.proofs.Common.{◌≡◌, ◌++◌, drop}
use Rattle.ncq_plan.specs.Relations.{relations}
use Rattle.ncq_engine.proofs.handed.relations_of.Given as goal

-- what was found and what is left are all
abbrev pub invariant-loop-predicate : goal.invariant-loop-predicate
invariant-loop-predicate g l =
    l.found.items ++ relations (drop l.predicate-index l.predicates) (λ p. p.name) (λ p. p.relation)
    ≡ relations l.predicates (λ p. p.name) (λ p. p.relation)
