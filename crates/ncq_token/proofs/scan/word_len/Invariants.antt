use Rattle.std.proofs.Common.{◌≡◌, length, ◌+◌}
use Rattle.ncq_token.specs.Bytes.{word_len}
use Rattle.ncq_token.proofs.scan.word_len.Given as goal

abbrev pub invariant-loop-first : goal.invariant-loop-first
invariant-loop-first l = record { value : l.len + word_len l.rest ≡ word_len l.bytes; within : l.len + length l.rest ≡ length l.bytes }

abbrev pub decreases-loop-first : goal.decreases-loop-first
decreases-loop-first l = length l.rest
