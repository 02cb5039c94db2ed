use Rattle.std.proofs.Common.{[], ◌+◌, ◌≤◌, take}
use Rattle.ncq_feed.specs.Runs.{IsUnderWay, own_in}
use Rattle.ncq_feed.specs.ScanFeeds.{AreScansFed}
use Rattle.ncq_feed.proofs.scan.feed_scans.Given as goal

abbrev pub ghost-feed_portion : goal.ghost-feed_portion
ghost-feed_portion g a = g.run

abbrev pub invariant-loop-at : goal.invariant-loop-at
invariant-loop-at g l = record {
  under : IsUnderWay g.run l.shelf;
  spent : l.steps ≤ l.fn.steps + own_in g.run l.shelf;
  fed : AreScansFed g.run (take l.at g.run.change) [] l.pending l.shelf;
}
