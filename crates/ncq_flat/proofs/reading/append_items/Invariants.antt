use Rattle.std.proofs.Common.{◌≡◌, ◌++◌, take}
use Rattle.ncq_flat.proofs.reading.append_items.Given as goal

abbrev pub invariant-loop-item : goal.invariant-loop-item
invariant-loop-item l = l.items ≡ l.initial.items ++ take l.item-index l.from
