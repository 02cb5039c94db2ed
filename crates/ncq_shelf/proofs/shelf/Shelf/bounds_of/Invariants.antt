use Rattle.std.proofs.Common.{take}
use Rattle.ncq_shelf.specs.Bounds.{AreBounds}
use Rattle.ncq_shelf.proofs.shelf.Shelf.bounds_of.Given as goal

-- the rows so far have their bounds
abbrev pub invariant-loop-signed : goal.invariant-loop-signed
invariant-loop-signed l = AreBounds l.self l.group.input l.group.slot (take l.signed-index l.rows) l.bounds.items
