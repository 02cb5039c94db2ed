use Rattle.std.proofs.Common.{◌≡◌, ◌+◌, ◌*◌, ◌≤◌, drop}
use Rattle.ncq_callback.specs.Texts.{gained}
use Rattle.ncq_callback.proofs.count.gained.Given as goal

-- what is left decides, and no entry counts more than a number of 64 bits
abbrev pub invariant-loop-entry : goal.invariant-loop-entry
invariant-loop-entry l = record {
  left : l.sum + gained (drop l.entry-index l.entries) ≡ gained l.entries;
  bound : l.sum ≤ l.entry-index * 18446744073709551615;
}
