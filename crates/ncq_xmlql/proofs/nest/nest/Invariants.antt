use Rattle.std.proofs.Common.{◌≡◌, ◌≤◌, ◌+◌, max, length}
use Rattle.ncq_xmlql.specs.Nesting.{nest, nest_from}
use Rattle.ncq_xmlql.proofs.nest.nest.Given as goal

abbrev pub invariant-loop-token : goal.invariant-loop-token
invariant-loop-token l =
    record { value : max l.most (nest_from l.depth l.rest) ≡ nest l.tokens; bound : l.depth + length l.rest ≤ length l.tokens; reached : l.depth ≤ l.most }

abbrev pub decreases-loop-token : goal.decreases-loop-token
decreases-loop-token l = length l.rest
