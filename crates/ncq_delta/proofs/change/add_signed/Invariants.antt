use Rattle.std.proofs.Common.{◌≡◌, ◌++◌, map}
use Rattle.std.specs.Vec.Iter.{into_iter_items}
use Rattle.ncq_delta.specs.Joins.{with_row}
use Rattle.ncq_delta.proofs.change.add_signed.Given as goal

abbrev pub invariant-loop-row : goal.invariant-loop-row
invariant-loop-row l = l.out ++ map (with_row l.signed) (into_iter_items l.row-iterator) ≡ l.initial.out ++ map (with_row l.signed) l.fn.rows
