use Rattle.std.proofs.Common.{◌≡◌, take}
use Rattle.std.specs.List.{flat_map}
use Rattle.ncq_engine.specs.Firing.{source_of}
use Rattle.ncq_engine.proofs.engine.asked_by.Given as goal

abbrev pub invariant-loop-item : goal.invariant-loop-item
invariant-loop-item l = l.sources ≡ flat_map source_of (take l.item-index l.items)
