use Rattle.std.proofs.Common.{◌≡◌, []}
use Rattle.ncq_shelf.proofs.CutLaws.{cut_front}
use Rattle.ncq_shelf.proofs.cut.cut_all.Given as goal

abbrev pub invariant-loop-at : goal.invariant-loop-at
invariant-loop-at l = l.files.entries ≡ cut_front [] l.change l.at l.fn.files.entries
