use Rattle.std.proofs.Common.{◌≡◌, map, take}
use Rattle.ncq_base.specs.declared.atom.FileId.{FileId}
use Rattle.ncq_shelf.proofs.shelf.numbers_of.Given as goal

abbrev pub invariant-loop-file : goal.invariant-loop-file
invariant-loop-file l = l.numbers ≡ map (λ (file : FileId). file.0) (take l.file-index l.files)
