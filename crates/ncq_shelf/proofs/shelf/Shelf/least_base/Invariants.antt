use Rattle.std.proofs.Common.{take}
use Rattle.std.specs.List.{AllByRecursion}
use Rattle.ncq_shelf.specs.Bounds.{IsBelowBase}
use Rattle.ncq_shelf.proofs.shelf.Shelf.least_base.Given as goal

-- the least base so far is below that of each file so far
abbrev pub invariant-loop-file : goal.invariant-loop-file
invariant-loop-file l = AllByRecursion (λ file. IsBelowBase l.self l.least file.0) (take l.file-index l.files)
