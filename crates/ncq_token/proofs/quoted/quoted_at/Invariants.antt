use Rattle.std.proofs.Common.{◌≡◌, ◌≤◌, length}
use Rattle.ncq_token.specs.Bytes.{quoted_at}
use Rattle.ncq_token.proofs.Reading.{with_value}
use Rattle.ncq_token.proofs.quoted.quoted_at.Given as goal

abbrev pub invariant-loop-first : goal.invariant-loop-first
invariant-loop-first l = record { value : with_value l.value.items (quoted_at l.rest) ≡ quoted_at l.bytes; within : length l.rest ≤ length l.bytes }

abbrev pub decreases-loop-first : goal.decreases-loop-first
decreases-loop-first l = length l.rest
