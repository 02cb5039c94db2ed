use Rattle.std.proofs.Common.{◌≡◌, ◌+◌, ◌-◌, ◌<◌, ◌≤◌, ◌++◌, length}
use Rattle.std.specs.List.{flat_map, AllByRecursion}
use Rattle.ncq_midfile.specs.Content.{since}
use Rattle.ncq_midfile.specs.Shown.{shown, rows_below}
use Rattle.ncq_readers.specs.Passed.{equal_parcels}
use Rattle.ncq_readers.specs.Readings.{HaveSlot}
use Rattle.ncq_readers.proofs.equals.add_equal_parcels.Given as goal

-- with the parcels of the groups to come, those so far are all
abbrev pub invariant-loop-slot : goal.invariant-loop-slot
invariant-loop-slot g l = record {
  parcels : l.parcels ++ flat_map (equal_parcels (since (l.number - 1) (shown l.input).rows)) l.slot-iterator ≡ l.initial.parcels ++ flat_map (equal_parcels (since (l.number - 1) (shown l.input).rows)) l.groups.entries;
  cost : l.steps + length (flat_map (equal_parcels (since (l.number - 1) (shown l.input).rows)) l.slot-iterator) ≤ l.initial.steps + length (flat_map (equal_parcels (since (l.number - 1) (shown l.input).rows)) l.groups.entries);
  base : (shown l.input).base < l.number;
  slots : AllByRecursion (λ table. HaveSlot table.0 (rows_below l.input)) l.slot-iterator;
}
