use Rattle.std.proofs.Common.{◌≡◌, ◌++◌, ℕ}
use Rattle.std.specs.List.{AllByRecursion}
use Rattle.std.specs.Vec.Iter.{into_iter_items}
use Rattle.ncq_feed.specs.Runs.{IsUnderWay, IsFor, news_in}
use Rattle.ncq_feed.proofs.append.append_all.Given as goal

abbrev pub ghost-append : goal.ghost-append
ghost-append g a = g.run

abbrev pub invariant-loop-row : goal.invariant-loop-row
invariant-loop-row g l = record {
  under : IsUnderWay g.run l.shelf;
  left : AllByRecursion (IsFor g.run l.at) (into_iter_items l.row-iterator);
  own : news_in g.run.store.changes l.shelf l.at ++ into_iter_items l.row-iterator ≡ news_in g.run.store.changes l.initial.shelf l.at ++ l.fn.rows;
  others : (other : ℕ) → (other ≡ l.at → ⊥) → news_in g.run.store.changes l.shelf other ≡ news_in g.run.store.changes l.initial.shelf other;
}
