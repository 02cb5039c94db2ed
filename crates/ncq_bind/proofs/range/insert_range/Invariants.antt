use Rattle.std.proofs.Common.{◌≡◌, ◌++◌, ◌-◌, ◌≤◌, length, take, drop}
use Rattle.ncq_bind.specs.Ranges.{insert_range}
use Rattle.ncq_bind.proofs.range.insert_range.Given as goal

abbrev pub decreases-loop-at : goal.decreases-loop-at
decreases-loop-at l = length l.ranges.items - l.at

abbrev pub invariant-loop-at : goal.invariant-loop-at
invariant-loop-at l = record {
  within : l.at ≤ length l.ranges.items;
  left : take l.at l.ranges.items ++ insert_range l.range (drop l.at l.ranges.items) ≡ insert_range l.range l.initial.ranges.items;
}
