-- What the lines of a block say, as a function: the items that they spell, or the first fault.
use Rattle.std.specs.Prelude.{ℕ, ◌+◌, List, [], ◌∷◌, length, Option, Some, None, Result, Ok, Err}
use Rattle.std.specs.Prelude.{if◌then◌else◌}
use Rattle.ncq_pyx.specs.declared.turns.Turn.{Turn}
use Rattle.ncq_pyx.specs.declared.item.Item.{Item}
use Rattle.ncq_pyx.specs.declared.error.PyxError.{PyxError}
use Rattle.ncq_pyx.specs.declared.error.PyxError.TheVariants.{BadLine, TooDeep}
use Rattle.ncq_pyx.specs.Spells.{Place, Rest, outside, nothing, turn, fits, moved, told}

-- at most so many elements are open in one another
abbrev pub max_nesting : ℕ
max_nesting = 512

-- what is to come from a line on, unless there is a fault behind it
abbrev pub with_told : Turn → Place → Result Rest PyxError → Result Rest PyxError
with_told found place (Ok rest) = Ok (told found place rest)
with_told found place (Err why) = Err why

-- a line that is none where it stands is the fault, and so is one that opens too deep an element
abbrev pub read_turn : ℕ → ℕ → (Place → Result Rest PyxError) → Place → Option Turn
    → Result Rest PyxError
read_turn limit number more place None = Err (BadLine number)
read_turn limit number more place (Some found) =
    if fits limit (length place.open_names) found
    then with_told found place (more (moved found place)) else Err (TooDeep number)

-- behind the last line no element is open
abbrev pub read_end : ℕ → List (List ℕ) → Result Rest PyxError
read_end number [] = Ok nothing
read_end number (name ∷ names) = Err (BadLine number)

-- the lines from this number and this place on
abbrev pub read_from : ℕ → ℕ → List (List ℕ) → Place → Result Rest PyxError
read_from limit number [] place = read_end number place.open_names
read_from limit number (line ∷ lines) place
    = read_turn limit number (λ p. read_from limit (number + 1) lines p) place (turn place line)

-- the items of what is to come
abbrev pub items_of : Result Rest PyxError → Result (List Item) PyxError
items_of (Ok rest) = Ok rest.items
items_of (Err why) = Err why

-- the items that the lines spell, or the first fault, its line counted from 1
abbrev pub block_of : ℕ → List (List ℕ) → Result (List Item) PyxError
block_of limit lines = items_of (read_from limit 1 lines outside)
