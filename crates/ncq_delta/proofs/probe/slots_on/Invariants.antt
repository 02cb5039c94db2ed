use Rattle.std.proofs.Common.{◌≡◌, take}
use Rattle.ncq_delta.specs.Probes.{slots_on}
use Rattle.ncq_delta.proofs.probe.slots_on.Given as goal

abbrev pub invariant-loop-pair : goal.invariant-loop-pair
invariant-loop-pair l = l.slots ≡ slots_on l.side (take l.pair-index l.pair-items)
