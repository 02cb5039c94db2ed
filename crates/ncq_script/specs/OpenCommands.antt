-- A command whose block is open. Only the crate's private clauses cite it.
use Rattle.std.specs.Prelude.{◌≡◌, Bool, false, ◌∷◌, [], ◌++◌, ◌||◌, List, true, Option, Some, None}
use Rattle.std.specs.Prelude.{IfSome}
use Rattle.std.specs.List.{before_first, list_any}
use Rattle.std.specs.Option.{option_to_list}
use Rattle.ncq_script.specs.Lines.{LineText}
use Rattle.ncq_script.specs.Commands.{any_long, bytes_of_lines, is_end, commands_of_lines}
use Rattle.ncq_script.specs.declared.command_lines.CommandLines.{CommandLines}
use Rattle.ncq_script.specs.declared.command_lines.OpenCommand.{OpenCommand}

-- the command, were its block to stay open
abbrev pub lines_so_far : OpenCommand → CommandLines
lines_so_far command = record {
  keyword = command.keyword;
  head = command.head;
  block = command.block;
  long = command.long;
  closed = false;
}

-- the same, where there is one
abbrev pub opened : Option OpenCommand → Option CommandLines
opened None = None
opened (Some command) = Some (lines_so_far command)

-- a line more in its block
abbrev pub joined : LineText → CommandLines → CommandLines
joined line command = record command {
  block = command.block ++ line.bytes ∷ [];
  long = command.long || line.long;
}

-- its block ends, or the script does
abbrev pub ended : Bool → CommandLines → CommandLines
ended closed command = record command { closed = closed }

-- what lines behind an open command give: it takes those up to its block's end
abbrev pub commands_behind : Option CommandLines → List LineText → List CommandLines
commands_behind None rest = commands_of_lines false rest
commands_behind (Some command) rest = record command {
  block = command.block ++ bytes_of_lines (before_first is_end rest);
  long = command.long || any_long (before_first is_end rest);
  closed = list_any is_end rest;
} ∷ commands_of_lines true rest

-- a line makes this of what is open, and ends this command
pub record Ends (before : Option CommandLines) (line : LineText) (command : Option CommandLines)
    (after : Option CommandLines) : Type 0 where
  pub given : (rest : List LineText)
      → commands_behind before (line ∷ rest) ≡ option_to_list command ++ commands_behind after rest
  pub closed : IfSome command (λ c. c.closed ≡ true)
  pub none : IfSome command (λ _. after ≡ None)
