-- The commands of a script, each as it is read.
use Rattle.std.specs.Prelude.{ℕ, Bool, List, map, if◌then◌else◌}
use Rattle.ncq_script.specs.Commands.{commands, whole_commands}
use Rattle.ncq_script.specs.Reads.{read}
use Rattle.ncq_script.specs.declared.command.Command.{Command}

-- what the commands of a script say
unfoldable pub script : ℕ → List ℕ → List Command
script limit bytes = map read (commands limit bytes)

-- what those say that are whole in the bytes up to the last line feed
unfoldable pub whole_script : ℕ → List ℕ → List Command
whole_script limit bytes = map read (whole_commands limit bytes)

-- what those say that can be told: all of them once the end is marked
abbrev pub known_script : ℕ → Bool → List ℕ → List Command
known_script limit finished bytes = if finished then script limit bytes
    else whole_script limit bytes
