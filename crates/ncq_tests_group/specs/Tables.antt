-- A table that stands for a store. Only the tests cite it.
use Rattle.std.specs.Prelude.{◌≡◌, ℕ, ◌<◌}
use Rattle.ncq_change.specs.Stores.{world_in}
use Rattle.ncq_group.specs.Tables.{TableState}
use Rattle.ncq_shelf.specs.Contents.{Fits}
use Rattle.ncq_shelf.specs.Stands.{IsThere}
use Rattle.ncq_source.specs.StoreStates.{StoreState}

-- the table has each number below the next, with the rows of its expression over the store as it is
pub record StandsFor (store : StoreState) (table : TableState) : Type 0 where
  pub number : store.changes ≡ table.number
  pub fits : Fits table.number (world_in store) table.files
  pub each : (number : ℕ) → number < table.next_file → IsThere table.files number
