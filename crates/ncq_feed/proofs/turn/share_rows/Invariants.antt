use Rattle.std.proofs.Common.{ℕ, List}
use Rattle.std.specs.List.{AllByRecursion}
use Rattle.std.specs.Vec.Iter.{into_iter_items}
use Rattle.ncq_shelf.specs.KeptFiles.{Files}
use Rattle.ncq_feed.specs.Runs.{IsUnderWay}
use Rattle.ncq_feed.specs.Shares.{AreShared, IsHeldFor, at_slot}
use Rattle.ncq_feed.proofs.turn.share_rows.Given as goal

abbrev pub ghost-share_row : goal.ghost-share_row
ghost-share_row g a = g.run

abbrev pub invariant-loop-row : goal.invariant-loop-row
invariant-loop-row g l = record {
  under : IsUnderWay g.run l.shelf;
  left : AllByRecursion (IsHeldFor g.run l.at l.slot) (into_iter_items l.row-iterator);
  shared : (keys : List ℕ) (files : Files) → AreShared g.run l.at (at_slot l.slot (into_iter_items l.row-iterator)) l.pending keys l.shelf files
      → AreShared g.run l.at (at_slot l.fn.group.slot l.fn.group.rows) l.initial.pending keys l.initial.shelf files;
}
