-- What predicates ask of a value and an argument.
use Rattle.std.specs.Prelude.{ℕ, ◌%◌, ◌==◌, ◌&&◌, Bool, false, not, if◌then◌else◌, List, [], ◌∷◌}
use Rattle.std.specs.Prelude.{map, nat_eq, unsigned_abs, Option, Some, None}
use Rattle.std.specs.List.{list_any, starts_with}
use Rattle.std.specs.Str.{bytes_eq}
use Rattle.ncq_base.specs.Atoms.{same_atom}
use Rattle.ncq_base.specs.declared.atom.Atom.{Atom}
use Rattle.ncq_base.specs.declared.atom.Atom.TheVariants.{Num, Text}
use Rattle.ncq_plan.specs.declared.relation.Relation.{Relation}
use Rattle.ncq_plan.specs.declared.relation.Relation.TheVariants.{Prefix, Multiple, Member}

-- both are texts, and the first begins with the second
abbrev pub begins_with : Atom → Atom → Bool
begins_with (Text value) (Text argument) = starts_with nat_eq value argument
begins_with (Text value) (Num argument) = false
begins_with (Num value) (Text argument) = false
begins_with (Num value) (Num argument) = false

-- both are numbers, the second is not 0, and the first is a multiple of it, in millionths
abbrev pub is_multiple : Atom → Atom → Bool
is_multiple (Num value) (Num argument) =
    not (unsigned_abs argument == 0) && unsigned_abs value % unsigned_abs argument == 0
is_multiple (Num value) (Text argument) = false
is_multiple (Text value) (Num argument) = false
is_multiple (Text value) (Text argument) = false

-- whether the value stands in the relation to the argument; that to a list asks nothing of the
-- argument
abbrev pub relates : Relation → Atom → Atom → Bool
relates Prefix value argument = begins_with value argument
relates Multiple value argument = is_multiple value argument
relates (Member atoms) value argument = list_any (same_atom value) atoms

-- names of predicates, each with its relation
abbrev pub Relations : Type 0
Relations = List (List ℕ × Relation)

-- The names and relations of predicates. A type that has a boxed closure cannot be named in a
-- definition, so what gives the two is handed in.
abbrev pub relations : {P : Type 0} → List P → (P → List ℕ) → (P → Relation) → Relations
relations predicates name relation = map (λ p. (name p, relation p)) predicates

-- the relation of the predicate of this name, the first one
abbrev pub relation_in : List ℕ → Relations → Option Relation
relation_in name [] = None
relation_in name (p ∷ more) = if bytes_eq name p.0 then Some p.1 else relation_in name more

-- whether there is a relation, and the value stands in it to the argument
abbrev pub satisfies : Option Relation → Atom → Atom → Bool
satisfies None value argument = false
satisfies (Some relation) value argument = relates relation value argument
