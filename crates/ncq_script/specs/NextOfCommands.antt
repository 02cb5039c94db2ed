-- What a reader of commands gives next.
use Rattle.std.specs.Prelude.{◌≡◌, ◌+◌, ◌<◌, ℕ, true, false, List, Option, Some, None, length}
use Rattle.std.specs.Prelude.{slice_get}
use Rattle.ncq_script.specs.Commands.{known_commands}
use Rattle.ncq_script.specs.LineReading.{IsLean}
use Rattle.ncq_script.specs.Reading.{CommandState, Follows}
use Rattle.ncq_script.specs.declared.command_lines.CommandLines.{CommandLines}
use Rattle.ncq_script.specs.declared.command_reader.NextCommand.{NextCommand}
use Rattle.ncq_script.specs.declared.command_reader.NextCommand.TheVariants.{Lines, Wanting, End}

-- of the bytes pushed, with so many commands given before, this is next
abbrev pub IsNext : CommandState → CommandState → List ℕ → ℕ → NextCommand → Type 0
IsNext old new pushed count (Lines command)
    = (slice_get (known_commands old.lines.limit old.lines.finished pushed) count ≡ Some command)
    × Follows new pushed (count + 1)
IsNext old new pushed count Wanting = (old.lines.finished ≡ false)
    × (length (known_commands old.lines.limit old.lines.finished pushed) ≡ count)
    × Follows new pushed count
IsNext old new pushed count End = (old.lines.finished ≡ true)
    × (length (known_commands old.lines.limit old.lines.finished pushed) ≡ count)
    × Follows new pushed count

-- where no further command is whole, no more is kept than the command whose block is open and a
-- line that is not whole
abbrev pub LeavesLittle : CommandState → NextCommand → Type 0
LeavesLittle new (Lines command) = Unit {0}
LeavesLittle new Wanting = IsLean new.lines
LeavesLittle new End = Unit {0}

-- 1 where a command's block is open
abbrev pub held : Option CommandLines → ℕ
held None = 0
held (Some command) = 1

-- what is kept, ahead or open
abbrev pub size : CommandState → ℕ
size state = length state.lines.kept + length state.lines.ahead + held state.current

-- a command takes something of it
abbrev pub Falls : CommandState → CommandState → NextCommand → Type 0
Falls old new (Lines command) = size new < size old
Falls old new Wanting = Unit {0}
Falls old new End = Unit {0}
