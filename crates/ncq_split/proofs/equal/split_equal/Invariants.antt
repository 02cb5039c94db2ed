use Rattle.std.proofs.Common.{◌≡◌, ◌+◌, ◌≤◌, length, take}
use Rattle.ncq_midfile.specs.Content.{signed_at}
use Rattle.ncq_midfile.specs.Shown.{rows_below}
use Rattle.ncq_split.specs.Splits.{files_equal, parcels_of}
use Rattle.ncq_split.proofs.equal.split_equal.Given as goal

abbrev pub invariant-loop-place : goal.invariant-loop-place
invariant-loop-place g l = record {
  parcels : l.parcels ≡ parcels_of (files_equal l.table) l.slot (signed_at (take l.place-index l.place-items) (rows_below l.input));
  cost : l.steps ≤ l.initial.steps + length (parcels_of (files_equal l.table) l.slot (signed_at (take l.place-index l.place-items) (rows_below l.input)));
}
