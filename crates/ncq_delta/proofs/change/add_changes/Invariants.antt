use Rattle.std.proofs.Common.{◌+◌, ◌≤◌, ◌++◌, List, length, take}
use Rattle.std.specs.List.{flat_map}
use Rattle.ncq_base.specs.Counts.{SameCounts}
use Rattle.ncq_row.specs.Embeddings.{Row}
use Rattle.ncq_midfile.specs.Content.{IsContent, signed_at}
use Rattle.ncq_midfile.specs.Shown.{shown, rows_below}
use Rattle.ncq_midfile.specs.declared.signed.SignedRow.{SignedRow}
use Rattle.ncq_delta.specs.Probes.{changed_on}
use Rattle.ncq_delta.proofs.change.add_changes.Given as goal

abbrev pub invariant-loop-place : goal.invariant-loop-place
invariant-loop-place g l = record {
  rows : (list : List Row) (front : List SignedRow) → IsContent l.probe.number (shown l.probe.other.now).rows list → SameCounts l.initial.out front
      → SameCounts l.out (front ++ flat_map (changed_on l.probe.side l.probe.pairs.now list) (signed_at (take l.place-index l.changed) (rows_below l.own)));
  cost : (list : List Row) → IsContent l.probe.number (shown l.probe.other.now).rows list
      → l.steps ≤ l.initial.steps + length (flat_map (changed_on l.probe.side l.probe.pairs.now list) (signed_at (take l.place-index l.changed) (rows_below l.own)));
}
