use Rattle.std.proofs.Common.{◌≡◌, ◌+◌, ◌≤◌, ◌++◌, length, take, drop, map}
use Rattle.ncq_plan.specs.Exprs.{scan_rows}
use Rattle.ncq_source.specs.StoreStates.{At}
use Rattle.ncq_fill.proofs.scan.append_shown.Given as goal

-- the rows so far, and the steps with the rows that are left
abbrev pub invariant-loop-at : goal.invariant-loop-at
invariant-loop-at g l = record {
  rows : At l.store l.id (λ source.
      l.rows ≡ l.initial.rows ++ scan_rows l.shape (take l.at (map (λ entry. entry.1) source.shown)));
  cost : At l.store l.id (λ source.
      l.steps + length (scan_rows l.shape (drop l.at (map (λ entry. entry.1) source.shown)))
      ≤ l.initial.steps + length (scan_rows l.shape (map (λ entry. entry.1) source.shown)));
}
