use Rattle.std.proofs.Common.{ℕ, List}
use Rattle.std.specs.List.{AllByRecursion}
use Rattle.std.specs.Vec.Iter.{into_iter_items}
use Rattle.ncq_readers.specs.Passed.{held_at}
use Rattle.ncq_shelf.specs.KeptFiles.{Files}
use Rattle.ncq_feed.specs.Runs.{IsUnderWay}
use Rattle.ncq_feed.specs.Shares.{AreShared, IsHeldFor}
use Rattle.ncq_feed.proofs.turn.deliver_held.Given as goal

abbrev pub ghost-share_rows : goal.ghost-share_rows
ghost-share_rows g a = g.run

abbrev pub invariant-loop-group : goal.invariant-loop-group
invariant-loop-group g l = record {
  under : IsUnderWay g.run l.shelf;
  left : AllByRecursion (λ h. AllByRecursion (IsHeldFor g.run l.at h.slot) h.rows) (into_iter_items l.group-iterator);
  shared : (keys : List ℕ) (files : Files) → AreShared g.run l.at (λ slot. held_at slot (into_iter_items l.group-iterator)) l.pending keys l.shelf files
      → AreShared g.run l.at (λ slot. held_at slot l.fn.held) l.initial.pending keys l.initial.shelf files;
}
