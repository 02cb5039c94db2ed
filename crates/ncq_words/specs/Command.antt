-- The command that clap parses the words by. Only the crate's private clauses cite it.
use Rattle.std.specs.Prelude.{ℕ, true, List, [], ◌∷◌, Option, Some, None, codes}
use Rattle.std.specs.Prelude.{option_map}
use Rattle.clap.specs.Words.{App, Rule, new_app, new_rule, with_rule}
use Rattle.clap.specs.declared.builder.ArgAction.TheVariants.{Set}
use Rattle.ncq_words.specs.declared.arguments.Arguments.{Arguments}

-- the argument `mode`, which is required
abbrev pub mode_rule : Rule
mode_rule = record (new_rule (codes "mode")) { action = Some Set; required = true }

-- the argument `value`
abbrev pub value_rule : Rule
value_rule = record (new_rule (codes "value")) { action = Some Set }

-- the command without arguments: no name of a program before the words, no help and no version
abbrev pub bare_command : App
bare_command = record (new_app (codes "ncq")) {
  top = record (new_app (codes "ncq")).top {
    no_binary_name = true;
    disable_help_flag = true;
    disable_version_flag = true;
  };
}

-- the command with the mode and the value
abbrev pub ncq_command : App
ncq_command = with_rule (with_rule bare_command mode_rule) value_rule

-- the words that a mode and a value stand for
abbrev pub words_from : List ℕ → Option (List ℕ) → List (List ℕ)
words_from mode None = mode ∷ []
words_from mode (Some value) = mode ∷ value ∷ []

-- the words that the arguments were
abbrev pub words_of : Arguments → List (List ℕ)
words_of arguments = words_from arguments.mode.now (option_map (λ s. s.now) arguments.value)
