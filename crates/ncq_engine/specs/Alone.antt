-- The notices of one subscriber, and the commands that are left without the others.
use Rattle.std.specs.Prelude.{ℕ, Bool, false, not, List, [], ◌∷◌, ◌++◌}
use Rattle.std.specs.List.{flat_map, filter}
use Rattle.std.specs.Str.{bytes_eq}
use Rattle.ncq_script.specs.declared.command.Command.{Command}
use Rattle.ncq_script.specs.declared.command.Command.TheVariants.{Create, Delete}
use Rattle.ncq_engine.specs.History.{History, is_named}
use Rattle.ncq_engine.specs.Notices.{Language, notice_at, firings_in_order}
use Rattle.ncq_engine.specs.Output.{first_refusal, after, unless_refused}

-- whether the command is a create or a delete of another name
abbrev pub is_of_another : List ℕ → Command → Bool
is_of_another name (Create statement) = not (bytes_eq name statement.name)
is_of_another name (Delete other) = not (bytes_eq name other)
is_of_another name command = false

-- the commands without the creates and deletes of other names
abbrev pub only : List ℕ → List Command → List Command
only name commands = filter (λ command. not (is_of_another name command)) commands

module _ (language : Language) where
  -- the notices in the answer to an accepted command that are of this name
  abbrev pub notices_of : List ℕ → History → Command → List ℕ
  notices_of name history command
      = flat_map (notice_at language history command)
      (filter (λ fired. is_named name fired.1) (firings_in_order history command))

  -- the notices of this name in the answers to commands, joined
  abbrev pub notes : List ℕ → History → List Command → List ℕ
  notes name history [] = []
  notes name history (command ∷ more) =
      unless_refused [] (first_refusal language history command) (notices_of name history command)
      ++ notes name (after language history command) more
