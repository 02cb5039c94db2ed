use Rattle.std.proofs.Common.{◌+◌, ◌≤◌, length}
use Rattle.ncq_flat.specs.Items.{Leads}
use Rattle.ncq_flat.proofs.reading.behind_element.Given as goal

abbrev pub invariant-loop-line : goal.invariant-loop-line
invariant-loop-line l = record {
  leads : Leads l.text l.rest l.count;
  few : l.depth + length l.rest ≤ length l.text;
  bound : l.count + length l.rest ≤ length l.text;
}

abbrev pub decreases-loop-line : goal.decreases-loop-line
decreases-loop-line l = length l.rest
