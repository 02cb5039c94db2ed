use Rattle.std.proofs.Common.{◌≡◌, ◌++◌, take, drop, map}
use Rattle.ncq_midfile.specs.Finders.{cut_finder}
use Rattle.ncq_midfile.proofs.finder.cut_all.Given as goal

abbrev pub invariant-loop-finder : goal.invariant-loop-finder
invariant-loop-finder l = l.finders ≡ map (cut_finder l.kept) (take l.finder-index l.initial.finders) ++ drop l.finder-index l.initial.finders
