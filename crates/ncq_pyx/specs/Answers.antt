-- What a function answers, against a definition. Only the crate's private clauses cite it.
use Rattle.std.specs.Prelude.{◌≡◌, Option, Some, None, Result, Ok, Err}
use Rattle.ncq_pyx.specs.declared.turns.Turn.{Turn}
use Rattle.ncq_pyx.specs.declared.turns.Stop.{Stop}
use Rattle.ncq_pyx.specs.declared.turns.Stop.TheVariants.{Fault, TooDeep, OutOfMemory}

-- there is no turn, unless memory ran out
abbrev pub IsNone : Stop → Option Turn → Type 0
IsNone Fault found = found ≡ None
IsNone TooDeep found = ⊥
IsNone OutOfMemory found = Unit {0}

-- the answer is the turn, unless memory ran out
abbrev pub Turns : Result Turn Stop → Option Turn → Type 0
Turns (Ok turn) found = found ≡ Some turn
Turns (Err why) found = IsNone why found
