use Rattle.std.proofs.Common.{◌≡◌, ◌+◌, ◌*◌, ◌≤◌, drop}
use Rattle.ncq_callback.specs.Texts.{lost}
use Rattle.ncq_callback.proofs.count.lost.Given as goal

-- what is left decides, and no entry counts more than a number of 64 bits
abbrev pub invariant-loop-entry : goal.invariant-loop-entry
invariant-loop-entry l = record {
  left : l.sum + lost (drop l.entry-index l.entries) ≡ lost l.entries;
  bound : l.sum ≤ l.entry-index * 18446744073709551615;
}
