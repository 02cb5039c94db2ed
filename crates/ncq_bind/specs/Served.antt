-- Whether the predicates that a query asks are there, each with the argument that it wants or none.
use Rattle.std.specs.Prelude.{ℕ, Bool, true, false, List, Option, Some, None, is_some}
use Rattle.std.specs.List.{list_all}
use Rattle.std.specs.Option.{is_none}
use Rattle.ncq_plan.specs.Relations.{Relations, relation_in}
use Rattle.ncq_plan.specs.declared.relation.Relation.{Relation}
use Rattle.ncq_plan.specs.declared.relation.Relation.TheVariants.{Prefix, Multiple, Member}
use Rattle.ncq_xmlql.specs.declared.model.QueryItem.{QueryItem}
use Rattle.ncq_xmlql.specs.declared.model.QueryItem.TheVariants.{Match, Condition, Satisfies}

-- membership of a list wants no argument, the other relations want one
abbrev pub wants : Relation → Option (List ℕ) → Bool
wants Prefix argument = is_some argument
wants Multiple argument = is_some argument
wants (Member atoms) argument = is_none argument

-- there is a relation, and an argument exactly where it wants one
abbrev pub serves : Option Relation → Option (List ℕ) → Bool
serves None argument = false
serves (Some relation) argument = wants relation argument

-- so it is with the predicate that a condition asks
abbrev pub item_is_served : Relations → QueryItem → Bool
item_is_served relations (Match root arms source) = true
item_is_served relations (Condition left op right) = true
item_is_served relations (Satisfies variable predicate argument) =
    serves (relation_in predicate relations) argument

-- each predicate that is asked has a relation, and an argument exactly where that wants one
abbrev pub are_served : Relations → List QueryItem → Bool
are_served relations items = list_all (item_is_served relations) items
