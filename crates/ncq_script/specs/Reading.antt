-- A reader of commands, as contracts see it. A caller needs `Follows` alone, and not what it says.
use Rattle.std.specs.Prelude.{◌≡◌, ◌++◌, ◌⊎◌, ℕ, true, false, List, Option, None, length}
use Rattle.std.specs.List.{filter}
use Rattle.ncq_script.specs.Lines.{LineText, lines, known_lines}
use Rattle.ncq_script.specs.LineReading.{LineState, FollowsLines}
use Rattle.ncq_script.specs.Commands.{is_closed, commands_of_lines, commands}
use Rattle.ncq_script.specs.OpenCommands.{commands_behind}
use Rattle.ncq_script.specs.declared.command_lines.CommandLines.{CommandLines}

-- the reader of its lines, and the command whose block is open
pub record CommandState : Type 0 where
  pub lines : LineState
  pub current : Option CommandLines

-- these lines were taken, and gave these commands, and this one whose block is open
pub record Took (reader : LineState) (current : Option CommandLines) (pushed : List ℕ)
    (taken : List LineText) (given : List CommandLines) : Type 0 where
  pub lines : FollowsLines reader pushed (length taken)
  pub front : (others : List LineText)
      × (known_lines reader.limit reader.finished pushed ≡ taken ++ others)
  pub gives : (rest : List LineText)
      → commands_of_lines false (taken ++ rest) ≡ given ++ commands_behind current rest
  pub closed : filter is_closed given ≡ given

-- all was given, also a last command whose block was open
pub record IsDrained (reader : LineState) (current : Option CommandLines) (pushed : List ℕ)
    (count : ℕ) : Type 0 where
  pub finished : reader.finished ≡ true
  pub none : current ≡ None
  pub lines : FollowsLines reader pushed (length (lines reader.limit pushed))
  pub all : length (commands reader.limit pushed) ≡ count

-- the reader was pushed these bytes, and gave so many commands
unfoldable pub Follows : CommandState → List ℕ → ℕ → Type 0
Follows state pushed count =
    ((taken : List LineText) × (given : List CommandLines)
    × Took state.lines state.current pushed taken given × (length given ≡ count))
    ⊎ IsDrained state.lines state.current pushed count
