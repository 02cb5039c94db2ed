use Rattle.std.specs.List.{range_with_len}
use Rattle.ncq_midfile.specs.LossCounts.{AreUnstruck}
use Rattle.ncq_midfile.proofs.fold.unstruck.Given as goal

abbrev pub invariant-loop-place : goal.invariant-loop-place
invariant-loop-place l = AreUnstruck l.rows l.bounds (range_with_len 0 l.place) l.places l.lost.entries
