use Rattle.std.proofs.Common.{◌≡◌, ◌+◌, ◌≤◌, take, length}
use Rattle.ncq_change.specs.Entries.{scan_delta}
use Rattle.ncq_feed.specs.ScanFeeds.{numbered}
use Rattle.ncq_feed.proofs.scan.changes_of.Given as goal

abbrev pub invariant-loop-entry : goal.invariant-loop-entry
invariant-loop-entry g l = record {
  rows : l.out ≡ numbered l.number (scan_delta l.shape (take l.entry-index l.entries));
  cost : l.steps ≤ l.initial.steps + length (scan_delta l.shape (take l.entry-index l.entries));
}
