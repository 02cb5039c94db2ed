use Rattle.std.proofs.Common.{◌≡◌, ◌≤◌, length}
use Rattle.std.specs.Vec.Iter.{into_iter_items}
use Rattle.ncq_bag.specs.Counts.{IsChange, after}
use Rattle.ncq_bag.proofs.counts.Counts.commit.Given as goal

-- what is left decides
abbrev pub invariant-loop-change : goal.invariant-loop-change
invariant-loop-change l = record {
  room : length (into_iter_items l.change-iterator) ≤ l.self.spare;
  change : IsChange l.self.counts (into_iter_items l.change-iterator);
  left : after l.self.counts (into_iter_items l.change-iterator)
      ≡ after l.initial.self.counts (into_iter_items l.initial.change-iterator);
}
