use Rattle.std.proofs.Common.{◌+◌, ◌≤◌, List, length, take, drop}
use Rattle.std.specs.List.{flat_map}
use Rattle.ncq_base.specs.Counts.{SameCounts}
use Rattle.ncq_row.specs.Embeddings.{Row}
use Rattle.ncq_midfile.specs.Content.{IsContent, rows_at}
use Rattle.ncq_midfile.specs.Shown.{shown, rows_below}
use Rattle.ncq_delta.specs.Probes.{joined_on}
use Rattle.ncq_delta.specs.declared.probe.Side.TheVariants.{Left}
use Rattle.ncq_delta.proofs.whole.join_whole.Given as goal

abbrev pub invariant-loop-place : goal.invariant-loop-place
invariant-loop-place g l = record {
  rows : (list : List Row) → IsContent l.number (shown l.right).rows list
      → SameCounts l.out (flat_map (joined_on Left l.pairs list) (rows_at (take l.place-index l.place-items) (rows_below l.left)));
  cost : (list : List Row) → IsContent l.number (shown l.right).rows list
      → l.steps + length (flat_map (joined_on Left l.pairs list) (rows_at (drop l.place-index l.place-items) (rows_below l.left)))
      ≤ l.initial.steps + length (flat_map (joined_on Left l.pairs list) (rows_at l.place-items (rows_below l.left)));
}
