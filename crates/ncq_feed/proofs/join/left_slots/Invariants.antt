use Rattle.std.proofs.Common.{◌≡◌, take}
use Rattle.ncq_delta.specs.Joins.{left_slots}
use Rattle.ncq_feed.proofs.join.left_slots.Given as goal

abbrev pub invariant-loop-pair : goal.invariant-loop-pair
invariant-loop-pair l = l.slots ≡ left_slots (take l.pair-index l.pairs)
