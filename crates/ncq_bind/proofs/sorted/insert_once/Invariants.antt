use Rattle.std.proofs.Common.{◌≡◌, ◌++◌, ◌-◌, ◌≤◌, length, take, drop}
use Rattle.ncq_bind.specs.Sorted.{insert_once}
use Rattle.ncq_bind.proofs.sorted.insert_once.Given as goal

abbrev pub decreases-loop-at : goal.decreases-loop-at
decreases-loop-at g l = length l.items.items - l.at

abbrev pub invariant-loop-at : goal.invariant-loop-at
invariant-loop-at g l = record {
  within : l.at ≤ length l.items.items;
  left : take l.at l.items.items ++ insert_once g.T.Ord.cmp l.item (drop l.at l.items.items) ≡ insert_once g.T.Ord.cmp l.item l.items.items;
}
