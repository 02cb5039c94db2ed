use Rattle.std.proofs.Common.{◌≡◌, ◌+◌, ◌≤◌, length, take}
use Rattle.std.specs.Map.{keys_of}
use Rattle.ncq_midfile.specs.Content.{signed_at}
use Rattle.ncq_midfile.specs.Shown.{rows_below}
use Rattle.ncq_midfile.specs.Views.{is_held, of_rows}
use Rattle.ncq_split.proofs.range.split_range.Given as goal

abbrev pub invariant-loop-place : goal.invariant-loop-place
invariant-loop-place g l = record {
  rows : l.rows ≡ of_rows (is_held l.slot (keys_of l.table)) (signed_at (take l.place-index l.place-items) (rows_below l.input));
  cost : l.steps ≤ l.initial.steps + length (of_rows (is_held l.slot (keys_of l.table)) (signed_at (take l.place-index l.place-items) (rows_below l.input)));
}
