-- What a block says, from what its items in front are and what the lines behind them say.
use Rattle.std.specs.Prelude.{ℕ, ◌+◌, List, [], ◌∷◌, ◌++◌, Result, Ok, Err}
use Rattle.ncq_pyx.specs.declared.item.Item.{Item}
use Rattle.ncq_pyx.specs.declared.error.PyxError.{PyxError}
use Rattle.ncq_pyx.specs.declared.error.PyxError.TheVariants.{BadLine, TooDeep, OutOfMemory}

-- the fault, so many lines further on
abbrev pub later : ℕ → PyxError → PyxError
later count (BadLine n) = BadLine (n + count)
later count (TooDeep n) = TooDeep (n + count)
later count OutOfMemory = OutOfMemory

-- behind so many lines that spell these items
abbrev pub behind_items : List Item → ℕ → Result (List Item) PyxError → Result (List Item) PyxError
behind_items items count (Ok more) = Ok (items ++ more)
behind_items items count (Err why) = Err (later count why)
