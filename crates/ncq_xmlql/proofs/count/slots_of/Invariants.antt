use Rattle.std.proofs.Common.{◌≡◌, ◌-◌, ◌^◌, min, take}
use Rattle.std.specs.List.{sum_by}
use Rattle.ncq_xmlql.specs.Counts.{item_slots}
use Rattle.ncq_xmlql.proofs.count.slots_of.Given as goal

abbrev pub invariant-loop-item : goal.invariant-loop-item
invariant-loop-item l = l.slots ≡ min (sum_by item_slots (take l.item-index l.items)) (2 ^ 64 - 1)
