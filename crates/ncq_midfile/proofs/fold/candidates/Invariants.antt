use Rattle.std.proofs.Common.{◌≡◌, filter}
use Rattle.std.specs.List.{range_with_len}
use Rattle.ncq_midfile.specs.Folds.{is_candidate}
use Rattle.ncq_midfile.proofs.fold.candidates.Given as goal

abbrev pub invariant-loop-place : goal.invariant-loop-place
invariant-loop-place l = l.places ≡ filter (is_candidate l.rows l.bounds) (range_with_len 0 l.place)
