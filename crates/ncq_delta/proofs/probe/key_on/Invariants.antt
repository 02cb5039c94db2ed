use Rattle.std.proofs.Common.{◌≡◌, take, map}
use Rattle.ncq_row.specs.Values.{atom_at}
use Rattle.ncq_delta.specs.Probes.{slots_on}
use Rattle.ncq_delta.proofs.probe.key_on.Given as goal

abbrev pub invariant-loop-pair : goal.invariant-loop-pair
invariant-loop-pair l = l.key ≡ map (atom_at l.row) (slots_on l.side (take l.pair-index l.pair-items))
