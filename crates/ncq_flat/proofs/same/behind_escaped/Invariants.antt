use Rattle.std.proofs.Common.{true, drop}
use Rattle.ncq_base.specs.Escapes.{escaped}
use Rattle.ncq_flat.proofs.RestLaws.{SameRests}
use Rattle.ncq_flat.proofs.same.behind_escaped.Given as goal

-- what is left decides
abbrev pub invariant-loop-byte : goal.invariant-loop-byte
invariant-loop-byte l = SameRests true (escaped l.word) l.text true (escaped (drop l.byte-index l.word)) l.rest
