-- What holds of every command that is read, and what its answer may rest on.
use Rattle.std.specs.Prelude.{◌≡◌, true}
use Rattle.std.specs.List.{list_all}
use Rattle.ncq_source.specs.Proper.{puts_proper}
use Rattle.ncq_xmlql.specs.WellFormed.{IsWellFormed}
use Rattle.ncq_script.specs.declared.command.Command.{Command}
use Rattle.ncq_script.specs.declared.command.Command.TheVariants.{Declare, Delta, Batch, Create}
use Rattle.ncq_script.specs.declared.command.Command.TheVariants.{Delete, Clock, Report, Malformed}
use Rattle.ncq_script.specs.declared.script_reader.Next.{Next}
use Rattle.ncq_script.specs.declared.script_reader.Next.TheVariants as next

-- the elements that a delta or a batch puts are proper, and the statement of a create is well
-- formed
abbrev pub IsProperCommand : Command → Type 0
IsProperCommand (Declare name root key) = Unit {0}
IsProperCommand (Delta sections) = list_all puts_proper sections ≡ true
IsProperCommand (Batch sections) = list_all puts_proper sections ≡ true
IsProperCommand (Create statement) = IsWellFormed statement
IsProperCommand (Delete name) = Unit {0}
IsProperCommand (Clock instant) = Unit {0}
IsProperCommand Report = Unit {0}
IsProperCommand (Malformed why) = Unit {0}

-- so is the command that a reader gives
abbrev pub GivesProper : Next → Type 0
GivesProper (next.Command command) = IsProperCommand command
GivesProper next.Wanting = Unit {0}
GivesProper next.End = Unit {0}
