-- The tally of commands.
use Rattle.std.specs.Prelude.{ℕ, ◌+◌, List, [], ◌∷◌, length, Option, Some, None}
use Rattle.ncq_report.specs.declared.tally.Tally.{Tally}
use Rattle.ncq_script.specs.declared.command.Command.{Command}
use Rattle.ncq_script.specs.declared.refusal.Refusal.{Refusal}
use Rattle.ncq_engine.specs.History.{History}
use Rattle.ncq_engine.specs.Notices.{Language}
use Rattle.ncq_engine.specs.Output.{after, first_refusal, output}
use Rattle.ncq_run.specs.Shown.{answer_spans}

abbrev pub one_if_refused : Option Refusal → ℕ
one_if_refused None = 0
one_if_refused (Some why) = 1

-- nothing is counted
abbrev pub no_tally : Tally
no_tally = record { commands = 0; refused = 0; notices = 0; bytes = 0 }

module _ (language : Language) where
  -- the command with this number counted too: its refusal, its notices, and the bytes of its answer
  abbrev pub with_command : Tally → History → ℕ → Command → Tally
  with_command tally history number command = record {
    commands = tally.commands + 1;
    refused = tally.refused + one_if_refused (first_refusal language history command);
    notices = tally.notices + length (answer_spans language history number command);
    bytes = tally.bytes + length (output language history number command);
  }

  -- and these commands, the first with this number
  abbrev pub tally_after : Tally → History → ℕ → List Command → Tally
  tally_after tally history number [] = tally
  tally_after tally history number (command ∷ more) =
      tally_after (with_command tally history number command) (after language history command)
      (number + 1) more

  -- the tally of commands from the beginning on
  abbrev pub tally_of : List Command → Tally
  tally_of commands = tally_after no_tally [] 1 commands
