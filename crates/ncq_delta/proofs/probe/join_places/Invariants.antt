use Rattle.std.proofs.Common.{◌≡◌, ◌+◌, ◌≤◌, take, map}
use Rattle.ncq_midfile.specs.Content.{rows_at}
use Rattle.ncq_midfile.specs.Shown.{rows_below}
use Rattle.ncq_delta.specs.Probes.{beside}
use Rattle.ncq_delta.proofs.probe.join_places.Given as goal

abbrev pub invariant-loop-place : goal.invariant-loop-place
invariant-loop-place g l = record {
  rows : l.rows ≡ map (beside l.side l.row) (rows_at (take l.place-index l.places) (rows_below l.other));
  cost : l.steps ≤ l.initial.steps + l.place-index;
}
