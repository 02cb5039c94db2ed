use Rattle.std.proofs.Common.{◌≡◌, ◌++◌}
use Rattle.std.specs.Vec.Iter.{into_iter_items}
use Rattle.ncq_plan.specs.Deltas.{signed}
use Rattle.ncq_feed.specs.ScanFeeds.{numbered}
use Rattle.ncq_feed.proofs.scan.add_signed.Given as goal

abbrev pub invariant-loop-row : goal.invariant-loop-row
invariant-loop-row l = l.out ++ numbered l.number (signed l.plus (into_iter_items l.row-iterator)) ≡ l.initial.out ++ numbered l.number (signed l.plus l.fn.rows)
