use Rattle.std.proofs.Common.{◌<◌, length, take}
use Rattle.std.specs.List.{All}
use Rattle.ncq_midfile.proofs.Foldeds.{AreDealt}
use Rattle.ncq_midfile.proofs.fold.folded.Given as goal

abbrev pub invariant-loop-place : goal.invariant-loop-place
invariant-loop-place l = record {
  within : All (λ place. place < length l.rows) l.place-items;
  dealt : AreDealt l.rows l.bounds (take l.place-index l.place-items) l.places l.initial.lost.entries l.lost.entries;
}
