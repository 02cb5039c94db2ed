-- A reader of a script, as contracts see it. A caller needs `FollowsScript` alone, and not what it
-- says.
use Rattle.std.specs.Prelude.{◌≡◌, ◌+◌, ℕ, Bool, List, Option, Some, None, slice_get}
use Rattle.ncq_script.specs.Commands.{known_commands}
use Rattle.ncq_script.specs.Reading.{CommandState, Follows}
use Rattle.ncq_script.specs.declared.command_lines.CommandLines.{CommandLines}

-- the reader of the lines of commands, and those of the next command, where they were taken and are
-- not yet read
pub record ScriptState : Type 0 where
  pub reader : CommandState
  pub waiting : Option CommandLines

-- the longest line that is looked at whole
abbrev pub limit_of : ScriptState → ℕ
limit_of state = state.reader.lines.limit

-- whether the end was marked
abbrev pub is_finished : ScriptState → Bool
is_finished state = state.reader.lines.finished

-- lines that wait are those of the next command, and were taken
abbrev pub FollowsWith : CommandState → Option CommandLines → List ℕ → ℕ → Type 0
FollowsWith reader None pushed count = Follows reader pushed count
FollowsWith reader (Some lines) pushed count
    = (slice_get (known_commands reader.lines.limit reader.lines.finished pushed) count
    ≡ Some lines)
    × Follows reader pushed (count + 1)

-- the reader was pushed these bytes, and gave so many commands
unfoldable pub FollowsScript : ScriptState → List ℕ → ℕ → Type 0
FollowsScript state pushed count = FollowsWith state.reader state.waiting pushed count
