-- What is written for a script, and the work of its commands, in a language.
use Rattle.std.specs.Prelude.{ℕ, ◌+◌, ◌*◌, ◌≤◌, List, [], Option, Some, None}
use Rattle.ncq_script.specs.declared.command.Command.{Command}
use Rattle.ncq_script.specs.Script.{script, whole_script}
use Rattle.ncq_engine.specs.Alone.{notes, only}
use Rattle.ncq_engine.specs.Notices.{Language}
use Rattle.ncq_engine.specs.Output.{out_of}
use Rattle.ncq_engine.specs.Works.{AreWorkUpTo}
use Rattle.ncq_report.specs.Loads.{load_text}
use Rattle.ncq_report.specs.Texts.{tally_text}
use Rattle.ncq_run.specs.Tallies.{tally_of}

-- what is shown of commands: their answers to whoever reads all, and to the subscriber of one name
-- the notices of that name, as they are without the creates and deletes of all other names
abbrev pub shown : Language → Option (List ℕ) → List Command → List ℕ
shown language None commands = out_of language [] 1 commands
shown language (Some name) commands = notes language name [] (only name commands)

-- the output for a whole script
unfoldable pub output_of : Language → Option (List ℕ) → ℕ → List ℕ → List ℕ
output_of language whose limit bytes = shown language whose (script limit bytes)

-- the output for the commands that are whole in these bytes
unfoldable pub output_of_whole : Language → Option (List ℕ) → ℕ → List ℕ → List ℕ
output_of_whole language whose limit bytes = shown language whose (whole_script limit bytes)

-- the output for a load of n subscribers: the tally of its commands
unfoldable pub load_output : Language → ℕ → ℕ → List ℕ
load_output language limit n = tally_text (tally_of language (script limit (load_text n)))

-- the steps are within twice the work of these commands, from the beginning on: a command that
-- finds no memory is tried once more
abbrev pub AreWithinTries : Language → List Command → ℕ → ℕ → Type 0
AreWithinTries language commands old new =
    (bound : ℕ) → AreWorkUpTo language [] commands bound → new ≤ old + 2 * bound
