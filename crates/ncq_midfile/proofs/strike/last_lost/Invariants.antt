use Rattle.std.proofs.Common.{◌≡◌, ◌≤◌, true, length, drop}
use Rattle.std.specs.List.{AllByRecursion}
use Rattle.ncq_midfile.proofs.strike.last_lost.Given as goal

abbrev pub invariant-loop-behind : goal.invariant-loop-behind
invariant-loop-behind l = record {
  within : l.behind ≤ length l.rows;
  none : AllByRecursion (λ r. r.plus ≡ true) (drop l.behind l.rows);
}

abbrev pub decreases-loop-behind : goal.decreases-loop-behind
decreases-loop-behind l = l.behind
