use Rattle.std.proofs.Common.{◌≡◌, ◌+◌, ◌-◌, ◌<◌, ◌≤◌, ◌++◌, map}
use Rattle.std.specs.List.{AllByRecursion}
use Rattle.ncq_midfile.specs.Content.{since}
use Rattle.ncq_midfile.specs.Shown.{shown, rows_below}
use Rattle.ncq_readers.specs.Passed.{held_by, size_of}
use Rattle.ncq_readers.specs.Readings.{HaveSlot}
use Rattle.ncq_readers.proofs.ranges.add_held.Given as goal

-- with those of the groups to come, the rows held so far are all
abbrev pub invariant-loop-slot : goal.invariant-loop-slot
invariant-loop-slot g l = record {
  held : l.held ++ map (held_by (since (l.number - 1) (shown l.input).rows)) l.slot-iterator ≡ l.initial.held ++ map (held_by (since (l.number - 1) (shown l.input).rows)) l.groups.entries;
  cost : l.steps + size_of (map (held_by (since (l.number - 1) (shown l.input).rows)) l.slot-iterator) ≤ l.initial.steps + size_of (map (held_by (since (l.number - 1) (shown l.input).rows)) l.groups.entries);
  base : (shown l.input).base < l.number;
  slots : AllByRecursion (λ table. HaveSlot table.0 (rows_below l.input)) l.slot-iterator;
}
