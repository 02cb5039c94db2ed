use Rattle.std.proofs.Common.{◌<◌, ◌≡◌, ◌+◌, ◌%◌, length, get_or, ℕ}
use Rattle.ncq_outside.proofs.repeat.fill_again.Given as goal

abbrev pub invariant-loop-byte : goal.invariant-loop-byte
invariant-loop-byte l =
    (l.at ≡ (l.from + l.byte-index) % length l.line) × ((k : ℕ) → k < l.byte-index → get_or l.to k 0 ≡ get_or l.line ((l.from + k) % length l.line) 0)
