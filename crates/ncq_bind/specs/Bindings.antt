-- Which queries bind to declared sources, and what `bind` answers.
use Rattle.std.specs.Prelude.{◌≡◌, ℕ, Bool, true, false, ◌&&◌, List, Option, Some, None, is_some}
use Rattle.std.specs.Prelude.{slice_get, Result, Ok, Err}
use Rattle.std.specs.List.{list_all}
use Rattle.std.specs.Str.{bytes_eq}
use Rattle.std.specs.Option.{option_and_then, option_map}
use Rattle.ncq_source.specs.StoreStates.{StoreState, found}
use Rattle.ncq_plan.specs.declared.query.NormalQuery.{NormalQuery}
use Rattle.ncq_plan.specs.Relations.{Relations}
use Rattle.ncq_xmlql.specs.declared.model.QueryItem.{QueryItem}
use Rattle.ncq_xmlql.specs.declared.model.QueryItem.TheVariants.{Match, Condition, Satisfies}
use Rattle.ncq_xmlql.specs.declared.model.Query.{Query}
use Rattle.ncq_bind.specs.declared.binding.BindError.{BindError}
use Rattle.ncq_bind.specs.declared.binding.BindError.TheVariants.{NoSource, RootDiffers}
use Rattle.ncq_bind.specs.declared.binding.BindError.TheVariants.{Unbound, OutOfMemory}
use Rattle.ncq_bind.specs.Bound.{query_is_bound}
use Rattle.ncq_bind.specs.Served.{are_served}
use Rattle.ncq_bind.specs.NormalQueries.{normal_query}

-- the root of the source of each name; none where the name is not declared
abbrev pub Roots : Type 0
Roots = List ℕ → Option (List ℕ)

-- those of a store
abbrev pub roots_in : StoreState → Roots
roots_in store name =
    option_map (λ source. source.root)
    (option_and_then (slice_get store.sources) (found store name))

-- the source of a match is declared
abbrev pub item_is_declared : Roots → QueryItem → Bool
item_is_declared roots (Match root arms source) = is_some (roots source)
item_is_declared roots (Condition left op right) = true
item_is_declared roots (Satisfies variable predicate argument) = true

-- there is a root, and it is this one
abbrev pub is_root : List ℕ → Option (List ℕ) → Bool
is_root root None = false
is_root root (Some declared) = bytes_eq declared root

-- the root tag of a match is that of its source
abbrev pub item_has_root : Roots → QueryItem → Bool
item_has_root roots (Match root arms source) = is_root root (roots source)
item_has_root roots (Condition left op right) = true
item_has_root roots (Satisfies variable predicate argument) = true

-- the source of each match is declared
abbrev pub are_declared : Roots → List QueryItem → Bool
are_declared roots items = list_all (item_is_declared roots) items

-- the root tag of each match is that of its source
abbrev pub have_roots : Roots → List QueryItem → Bool
have_roots roots items = list_all (item_has_root roots) items

-- when a normal query is the answer
pub record HasNormalQuery
    (relations : Relations) (query : Query) (roots : Roots) (normal : NormalQuery)
    : Type 0 where
  pub declared : are_declared roots query.items ≡ true
  pub root : have_roots roots query.items ≡ true
  pub bound : query_is_bound query ≡ true
  pub served : are_served relations query.items ≡ true
  pub answer : normal ≡ normal_query query

-- when the root tag of a match is the first fault
pub record DiffersInRoot (query : Query) (roots : Roots) : Type 0 where
  pub declared : are_declared roots query.items ≡ true
  pub root : have_roots roots query.items ≡ false

-- when the first fault is a variable without a place, or a predicate that is not there or is asked
-- with an argument that it does not want or without one that it does
pub record IsUnbound (relations : Relations) (query : Query) (roots : Roots) : Type 0 where
  pub declared : are_declared roots query.items ≡ true
  pub root : have_roots roots query.items ≡ true
  pub bound : (query_is_bound query && are_served relations query.items) ≡ false

-- When each answer is given. No two of them are right for one query, but for want of memory.
abbrev pub Binds : Relations → Query → Roots → Result NormalQuery BindError → Type 0
Binds relations query roots (Ok normal) = HasNormalQuery relations query roots normal
Binds relations query roots (Err NoSource) = are_declared roots query.items ≡ false
Binds relations query roots (Err RootDiffers) = DiffersInRoot query roots
Binds relations query roots (Err Unbound) = IsUnbound relations query roots
Binds relations query roots (Err OutOfMemory) = Unit {0}
