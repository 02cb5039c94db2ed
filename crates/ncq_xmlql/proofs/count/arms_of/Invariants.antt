use Rattle.std.proofs.Common.{◌≡◌, ◌-◌, ◌^◌, min, take}
use Rattle.std.specs.List.{sum_by}
use Rattle.ncq_xmlql.specs.Counts.{item_arms}
use Rattle.ncq_xmlql.proofs.count.arms_of.Given as goal

abbrev pub invariant-loop-item : goal.invariant-loop-item
invariant-loop-item l = l.arms ≡ min (sum_by item_arms (take l.item-index l.items)) (2 ^ 64 - 1)
