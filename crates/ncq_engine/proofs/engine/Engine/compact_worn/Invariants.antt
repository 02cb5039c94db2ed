use Rattle.std.proofs.Common.{take}
use Rattle.ncq_engine.proofs.CompactTurns.{HaveMet}
use Rattle.ncq_engine.proofs.engine.Engine.compact_worn.Given as goal

abbrev pub invariant-loop-number : goal.invariant-loop-number
invariant-loop-number l = HaveMet l.initial.self l.self (take l.number-index l.number-items)
