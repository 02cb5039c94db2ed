-- The lines of a script, as commands with their blocks.
use Rattle.std.specs.Prelude.{◌==◌, ◌&&◌, ◌||◌, ℕ, Bool, true, false, not, map, List, [], ◌∷◌, Some}
use Rattle.std.specs.Prelude.{None, if◌then◌else◌}
use Rattle.std.specs.List.{filter, before_first, list_any}
use Rattle.ncq_script.specs.Lines.{LineText, lines, whole_lines}
use Rattle.ncq_script.specs.Words.{begins}
use Rattle.ncq_script.specs.declared.command_lines.CommandLines.{CommandLines}
use Rattle.ncq_script.specs.declared.word.Keyword.{Keyword}
use Rattle.ncq_script.specs.declared.word.Keyword.TheVariants.{Source, Delta, Batch, Create, Delete}
use Rattle.ncq_script.specs.declared.word.Keyword.TheVariants.{Clock, Report, Unknown}

-- exactly `.`
abbrev pub is_dot : List ℕ → Bool
is_dot [] = false
is_dot (b ∷ []) = b == 46
is_dot (b ∷ c ∷ text) = false

-- a line that is exactly `.` ends a block
abbrev pub is_end : LineText → Bool
is_end line = is_dot line.bytes && not line.long

-- `delta`, `batch` and `create` open a block
abbrev pub opens_block : Keyword → Bool
opens_block Delta = true
opens_block Batch = true
opens_block Create = true
opens_block Source = false
opens_block Delete = false
opens_block Clock = false
opens_block Report = false
opens_block Unknown = false

-- the bytes of each line
abbrev pub bytes_of_lines : List LineText → List (List ℕ)
bytes_of_lines lines = map (λ line. line.bytes) lines

-- some line was longer than the limit
abbrev pub any_long : List LineText → Bool
any_long lines = list_any (λ line. line.long) lines

-- the command that the line begins, with this block
abbrev pub with_block : Keyword → LineText → List LineText → Bool → CommandLines
with_block keyword head block closed = record {
  keyword = keyword;
  head = head.bytes;
  block = bytes_of_lines block;
  long = head.long || any_long block;
  closed = closed;
}

-- the command that the line begins, with the lines behind it: its block is those before the first
-- `.`, and it is closed if there is one
abbrev pub command_of : Keyword → LineText → List LineText → CommandLines
command_of keyword head more =
    if opens_block keyword
    then with_block keyword head (before_first is_end more) (list_any is_end more)
    else record {
      keyword = keyword;
      head = head.bytes;
      block = [];
      long = head.long;
      closed = true;
    }

-- the commands of the lines: inside a block no line begins one, up to the block's end
abbrev pub commands_of_lines : Bool → List LineText → List CommandLines
commands_of_lines inside [] = []
commands_of_lines true (line ∷ more) = commands_of_lines (not (is_end line)) more
commands_of_lines false (line ∷ more)
    = elim (begins line.bytes) [
      | None ↦ commands_of_lines false more
      | Some keyword ↦ command_of keyword line more
          ∷ commands_of_lines (opens_block keyword) more
    ]

-- the commands of a script
unfoldable pub commands : ℕ → List ℕ → List CommandLines
commands limit bytes = commands_of_lines false (lines limit bytes)

abbrev pub is_closed : CommandLines → Bool
is_closed command = command.closed

-- the commands of the bytes up to the last line feed, without one whose block is open
unfoldable pub whole_commands : ℕ → List ℕ → List CommandLines
whole_commands limit bytes = filter is_closed (commands_of_lines false (whole_lines limit bytes))

-- the commands that can be told: all of them once the end is marked
abbrev pub known_commands : ℕ → Bool → List ℕ → List CommandLines
known_commands limit finished bytes = if finished then commands limit bytes
    else whole_commands limit bytes
