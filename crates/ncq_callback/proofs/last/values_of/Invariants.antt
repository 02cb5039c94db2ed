use Rattle.std.proofs.Common.{◌≡◌, take}
use Rattle.ncq_callback.proofs.last.values_of.Given as goal

abbrev pub invariant-loop-slot : goal.invariant-loop-slot
invariant-loop-slot l = l.values ≡ take l.slot l.row
