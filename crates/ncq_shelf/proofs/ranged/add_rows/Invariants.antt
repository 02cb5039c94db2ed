use Rattle.std.specs.Vec.Iter.{into_iter_items}
use Rattle.ncq_shelf.proofs.GroupEntries.{ArePartlyAdded}
use Rattle.ncq_shelf.proofs.ranged.add_rows.Given as goal

-- the rows so far are there
abbrev pub invariant-loop-row : goal.invariant-loop-row
invariant-loop-row l = ArePartlyAdded l.fn.group.slot l.initial.held l.fn.rows l.held (into_iter_items l.row-iterator)
