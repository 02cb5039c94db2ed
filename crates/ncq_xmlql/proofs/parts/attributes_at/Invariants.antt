use Rattle.std.proofs.Common.{◌≡◌, length}
use Rattle.ncq_xmlql.specs.Reading.{attributes_at}
use Rattle.ncq_xmlql.proofs.Loops.{with_items}
use Rattle.ncq_xmlql.proofs.parts.attributes_at.Given as goal

abbrev pub invariant-loop-token : goal.invariant-loop-token
invariant-loop-token l = with_items l.attributes (attributes_at l.rest) ≡ attributes_at l.tokens

abbrev pub decreases-loop-token : goal.decreases-loop-token
decreases-loop-token l = length l.rest
