use Rattle.std.proofs.Common.{ℕ, ◌≤◌, ◌++◌, length}
use Rattle.std.specs.List.{AllByRecursion}
use Rattle.ncq_base.specs.Counts.{SameCounts}
use Rattle.ncq_midfile.specs.Content.{IsBalanced, gains, losses}
use Rattle.ncq_midfile.proofs.strike.strike_all.Given as goal

abbrev pub invariant-loop-at : goal.invariant-loop-at
invariant-loop-at l = record {
  balanced : IsBalanced l.rows.items;
  counts : SameCounts (gains l.rows.items ++ losses l.fn.rows.items) (gains l.fn.rows.items ++ losses l.rows.items);
  numbers : (n : ℕ) → AllByRecursion (λ r. r.number ≤ n) l.fn.rows.items → AllByRecursion (λ r. r.number ≤ n) l.rows.items;
}

abbrev pub decreases-loop-at : goal.decreases-loop-at
decreases-loop-at l = length l.rows.items
