-- What a reader of a script gives next.
use Rattle.std.specs.Prelude.{◌≡◌, ◌+◌, ◌<◌, ℕ, true, false, List, Option, Some, None, length}
use Rattle.std.specs.Prelude.{slice_get}
use Rattle.ncq_script.specs.LineReading.{IsLean}
use Rattle.ncq_script.specs.NextOfCommands.{held, size}
use Rattle.ncq_script.specs.Reading.{CommandState}
use Rattle.ncq_script.specs.Script.{known_script}
use Rattle.ncq_script.specs.ScriptReading.{ScriptState, limit_of, is_finished, FollowsScript}
use Rattle.ncq_script.specs.declared.command_lines.CommandLines.{CommandLines}
use Rattle.ncq_script.specs.declared.command_reader.NextCommand.{NextCommand}
use Rattle.ncq_script.specs.declared.command_reader.NextCommand.TheVariants as lines
use Rattle.ncq_script.specs.declared.script_reader.Next.{Next}
use Rattle.ncq_script.specs.declared.script_reader.Next.TheVariants.{Command, Wanting, End}

-- of the bytes pushed, with so many commands given before, this is next
abbrev pub IsNextCommand : ScriptState → ScriptState → List ℕ → ℕ → Next → Type 0
IsNextCommand old new pushed count (Command command)
    = (slice_get (known_script (limit_of old) (is_finished old) pushed) count ≡ Some command)
    × FollowsScript new pushed (count + 1)
IsNextCommand old new pushed count Wanting = (is_finished old ≡ false)
    × (length (known_script (limit_of old) (is_finished old) pushed) ≡ count)
    × FollowsScript new pushed count
IsNextCommand old new pushed count End = (is_finished old ≡ true)
    × (length (known_script (limit_of old) (is_finished old) pushed) ≡ count)
    × FollowsScript new pushed count

-- where no further command is whole, no command waits, the pieces are gone, and no more is kept
-- than the lines of the command whose block is open and, of a line that is not whole, the limit and
-- one byte
abbrev pub KeepsLittle : ScriptState → Next → Type 0
KeepsLittle new (Command command) = Unit {0}
KeepsLittle new Wanting = (new.waiting ≡ None) × IsLean new.reader.lines
KeepsLittle new End = Unit {0}

-- what is kept, ahead, open or waiting
abbrev pub script_size : ScriptState → ℕ
script_size state = size state.reader + held state.waiting

-- a command takes something of it
abbrev pub ScriptFalls : ScriptState → ScriptState → Next → Type 0
ScriptFalls old new (Command command) = script_size new < script_size old
ScriptFalls old new Wanting = Unit {0}
ScriptFalls old new End = Unit {0}

-- so do the lines of one, from the reader or those that wait
abbrev pub LinesTaken : CommandState → Option CommandLines → CommandState → NextCommand → Type 0
LinesTaken old waiting new (lines.Lines command) = size new < size old + held waiting
LinesTaken old waiting new lines.Wanting = Unit {0}
LinesTaken old waiting new lines.End = Unit {0}
