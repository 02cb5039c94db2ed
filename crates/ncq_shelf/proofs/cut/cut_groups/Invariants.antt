use Rattle.std.proofs.Common.{◌≡◌}
use Rattle.ncq_shelf.specs.Shown.{cut_held}
use Rattle.ncq_shelf.proofs.EntryCuts.{cut_front}
use Rattle.ncq_shelf.proofs.cut.cut_groups.Given as goal

abbrev pub invariant-loop-at : goal.invariant-loop-at
invariant-loop-at l = l.groups.entries ≡ cut_front (cut_held l.change) l.at l.fn.groups.entries
