-- What contracts see of handlers and predicates: the name and the kind of each handler, in order,
-- and the name and the relation of each predicate.
use Rattle.std.specs.Prelude.{ℕ, List, map, refl}
use Rattle.std.specs.Coded.{Coded, code_by, coded×, coded_ℕ, coded_list}
use Rattle.ncq_plan.specs.Relations.{Relations, relations}
use Rattle.ncq_plan.specs.contracts.relation.Relation.{the_row as relation_row}
use Rattle.ncq_plan.specs.declared.relation.Relation.{Relation}
use Rattle.ncq_callback.specs.contracts.notice.Kind.{the_row as kind_row}
use Rattle.ncq_callback.specs.declared.notice.Kind.{Kind}

-- a name and a kind
abbrev pub Label : Type 0
Label = List ℕ × Kind

-- The names and kinds of handlers. A type that has a boxed closure cannot be named in a
-- definition, so what gives the two is handed in.
abbrev pub labels : {H : Type 0} → List H → (H → List ℕ) → (H → Kind) → List Label
labels handlers name kind = map (λ h. (name h, kind h)) handlers

-- what an engine is handed: the names and kinds of handlers, and the names and relations of
-- predicates
pub record Handed : Type 0 where
  pub labels : List Label
  pub relations : Relations

-- how it is written as a value
abbrev pub handed_code : Coded Handed
handed_code =
    code_by (List Label × Relations)
    (coded× (coded_list (coded× (coded_list coded_ℕ) kind_row.coded))
    (coded_list (coded× (coded_list coded_ℕ) relation_row.coded)))
    (λ h. (h.labels, h.relations)) (λ p. record { labels = p.0; relations = p.1 }) (λ _. refl)

-- that of handlers and predicates, of which what gives these four is handed in
abbrev pub handed_in : {H P : Type 0} → List H → (H → List ℕ) → (H → Kind) → List P
    → (P → List ℕ) → (P → Relation) → Handed
handed_in handlers name kind predicates called relation = record {
  labels = labels handlers name kind;
  relations = relations predicates called relation;
}
