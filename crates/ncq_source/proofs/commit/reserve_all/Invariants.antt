use Rattle.std.proofs.Common.{◌≡◌, length, map, take}
use Rattle.std.specs.List.{AllByRecursion}
use Rattle.ncq_source.specs.Stores.{without_room}
use Rattle.ncq_source.specs.StoreStates.{HasRoomIn}
use Rattle.ncq_source.specs.Views.{source_of}
use Rattle.ncq_source.proofs.commit.reserve_all.Given as goal

-- the portions so far have their room
abbrev pub invariant-loop-portion : goal.invariant-loop-portion
invariant-loop-portion l = record {
  count : length l.sources.items ≡ length l.initial.sources.items;
  same : map without_room (map source_of l.sources.items) ≡ map without_room (map source_of l.initial.sources.items);
  room : AllByRecursion (HasRoomIn (map source_of l.sources.items)) (take l.portion-index l.portions);
}
