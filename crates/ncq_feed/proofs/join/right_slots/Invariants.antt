use Rattle.std.proofs.Common.{◌≡◌, take}
use Rattle.ncq_delta.specs.Joins.{right_slots}
use Rattle.ncq_feed.proofs.join.right_slots.Given as goal

abbrev pub invariant-loop-pair : goal.invariant-loop-pair
invariant-loop-pair l = l.slots ≡ right_slots (take l.pair-index l.pairs)
