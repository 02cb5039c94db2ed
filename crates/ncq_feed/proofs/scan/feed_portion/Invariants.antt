use Rattle.std.proofs.Common.{◌≡◌, true, ◌+◌, ◌≤◌, ℕ, List, take}
use Rattle.std.specs.Vec.Iter.{into_iter_items}
use Rattle.ncq_change.specs.Stores.{entries_in}
use Rattle.ncq_feed.specs.Runs.{IsUnderWay, own_in}
use Rattle.ncq_feed.specs.ScanFeeds.{AreLeft, AreScansFed, is_asked}
use Rattle.ncq_feed.proofs.scan.feed_portion.Given as goal

abbrev pub ghost-feed_scan : goal.ghost-feed_scan
ghost-feed_scan g a = g.run

abbrev pub invariant-loop-scan : goal.invariant-loop-scan
invariant-loop-scan g l = record {
  under : IsUnderWay g.run l.shelf;
  spent : l.steps + own_in g.run l.fn.shelf ≤ l.fn.steps + own_in g.run l.shelf;
  name : List ℕ;
  asked : is_asked g.run.store (take (l.fn.at + 1) g.run.change) name ≡ true;
  same : l.entries ≡ entries_in g.run.store g.run.change name;
  left : AreLeft g.run name (into_iter_items l.scan-iterator) l.shelf;
  fed : AreScansFed g.run (take (l.fn.at + 1) g.run.change) (into_iter_items l.scan-iterator) l.pending l.shelf;
}
