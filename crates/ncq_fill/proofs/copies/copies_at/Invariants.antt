use Rattle.std.proofs.Common.{◌≡◌, ◌+◌, ◌≤◌, take}
use Rattle.ncq_midfile.specs.Content.{rows_at}
use Rattle.ncq_midfile.specs.Shown.{rows_below}
use Rattle.ncq_fill.proofs.copies.copies_at.Given as goal

abbrev pub invariant-loop-place : goal.invariant-loop-place
invariant-loop-place g l = record {
  rows : l.rows ≡ rows_at (take l.place-index l.places) (rows_below l.file);
  cost : l.steps ≤ l.initial.steps + l.place-index;
}
