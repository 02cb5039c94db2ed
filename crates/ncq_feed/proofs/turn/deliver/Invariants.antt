use Rattle.std.proofs.Common.{◌≡◌, ◌++◌, ◌||◌, ℕ}
use Rattle.std.specs.List.{AllByRecursion}
use Rattle.std.specs.Vec.Iter.{into_iter_items}
use Rattle.ncq_readers.specs.Passed.{rows_to}
use Rattle.ncq_feed.specs.Runs.{IsUnderWay, is_among, news_in}
use Rattle.ncq_feed.specs.Turns.{IsParcelFor, files_of}
use Rattle.ncq_feed.proofs.turn.deliver.Given as goal

abbrev pub ghost-append : goal.ghost-append
ghost-append g a = g.run

abbrev pub invariant-loop-parcel : goal.invariant-loop-parcel
invariant-loop-parcel g l = record {
  under : IsUnderWay g.run l.shelf;
  left : AllByRecursion (IsParcelFor g.run) (into_iter_items l.parcel-iterator);
  rows : (number : ℕ) → news_in g.run.store.changes l.shelf number ++ rows_to number (into_iter_items l.parcel-iterator) ≡ news_in g.run.store.changes l.initial.shelf number ++ rows_to number l.fn.parcels;
  noted : (number : ℕ) → (is_among number (files_of (into_iter_items l.parcel-iterator)) || is_among number l.pending) ≡ (is_among number (files_of l.fn.parcels) || is_among number l.initial.pending);
}
