-- When portions can be committed. Only the crate's private clauses cite it.
use Rattle.std.specs.Prelude.{◌<◌, List, length}
use Rattle.std.specs.List.{AllByRecursion}
use Rattle.ncq_source.specs.ChangeStates.{AreRising}
use Rattle.ncq_source.specs.Stores.{Source}
use Rattle.ncq_source.specs.StoreStates.{HasRoomIn}
use Rattle.ncq_source.specs.declared.change.Portion.{Portion}

-- each portion is of a source of its own, which has room for the portion's entries
pub record CanCommit (sources : List Source) (portions : List Portion) : Type 0 where
  pub rising : AreRising portions
  pub declared : AllByRecursion (λ portion. portion.source.0 < length sources) portions
  pub room : AllByRecursion (HasRoomIn sources) portions
