-- The elements of a store, and a change that goes from one store to the next.
use Rattle.std.specs.Prelude.{ℕ, List, [], Option, Some, None}
use Rattle.std.specs.Option.{option_and_then}
use Rattle.std.specs.FinMap.{empty}
use Rattle.ncq_source.specs.Held.{Kept}
use Rattle.ncq_source.specs.Stores.{Source}
use Rattle.ncq_source.specs.Changes.{Chains}
use Rattle.ncq_source.specs.ChangeStates.{entries_at}
use Rattle.ncq_source.specs.declared.change.Entry.{Entry}
use Rattle.ncq_source.specs.declared.change.Portion.{Portion}
use Rattle.ncq_source.specs.StoreStates.{StoreState, found, source_named, IsAlike, IsCommitted}
use Rattle.ncq_plan.specs.Exprs.{World}
use Rattle.ncq_change.specs.Entries.{world_of}

-- the elements of a source, where there is one
abbrev pub elements_of : Option Source → Kept
elements_of None = empty
elements_of (Some source) = source.elements

-- the elements that each source of a store has, by the source's name; a name that is not declared
-- has none
abbrev pub kept_in : StoreState → List ℕ → Kept
kept_in store name = elements_of (source_named store name)

-- and their world: the elements of each source, rising by key
abbrev pub world_in : StoreState → World
world_in store = world_of (kept_in store)

-- the entries of a portion, where there is one
abbrev pub or_none : Option (List Entry) → List Entry
or_none None = []
or_none (Some entries) = entries

-- the entries of a change for each source, by the source's name
abbrev pub entries_in : StoreState → List Portion → List ℕ → List Entry
entries_in store change name =
    or_none (option_and_then (λ at. entries_at at change) (found store name))

-- a change whose entries say what their keys held in the store before was committed where the store
-- had been given room
pub record Applies (before ready after : StoreState) (change : List Portion) : Type 0 where
  pub chains : (name : List ℕ) → Chains (kept_in before name) (entries_in before change name)
  pub room : IsAlike before ready
  pub committed : IsCommitted ready change after
