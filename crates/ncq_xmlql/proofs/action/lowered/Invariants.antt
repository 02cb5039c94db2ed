use Rattle.std.proofs.Common.{◌≡◌, take}
use Rattle.ncq_xmlql.specs.Reading.{lowered}
use Rattle.ncq_xmlql.proofs.action.lowered.Given as goal

abbrev pub invariant-loop-byte : goal.invariant-loop-byte
invariant-loop-byte l = l.lower.items ≡ lowered (take l.byte-index l.word)
