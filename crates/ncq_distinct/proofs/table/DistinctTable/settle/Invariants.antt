use Rattle.std.proofs.Common.{◌≡◌, ℕ, length}
use Rattle.ncq_distinct.specs.Kept.{CanWait}
use Rattle.ncq_distinct.proofs.ShownTables.{left_at}
use Rattle.ncq_distinct.proofs.table.DistinctTable.settle.Given as goal

-- what is left decides
abbrev pub invariant-loop-install : goal.invariant-loop-install
invariant-loop-install l = record {
  waits : CanWait l.self-inside.counts.entries l.self-inside.waiting.entries;
  left : (any : ℕ) → left_at l.self-inside.counts.entries l.self-inside.waiting.entries any
      ≡ left_at l.initial.self-inside.counts.entries l.initial.self-inside.waiting.entries any;
}

abbrev pub decreases-loop-install : goal.decreases-loop-install
decreases-loop-install l = length l.self-inside.waiting.entries
