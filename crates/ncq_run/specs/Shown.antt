-- What is shown of one answer after the other, and where its notices stand.
use Rattle.std.specs.Prelude.{ℕ, ◌+◌, ◌-◌, ◌≤◌, Bool, List, [], ◌∷◌, ◌++◌, length, take, drop}
use Rattle.std.specs.Prelude.{Option, Some, None}
use Rattle.std.specs.Str.{bytes_eq}
use Rattle.ncq_script.specs.declared.command.Command.{Command}
use Rattle.ncq_engine.specs.declared.span.Span.{Span}
use Rattle.ncq_engine.specs.Alone.{notices_of}
use Rattle.ncq_engine.specs.History.{History}
use Rattle.ncq_engine.specs.Notices.{Language}
use Rattle.ncq_engine.specs.Output.{after, first_refusal, ok_text, output, unless_refused}
use Rattle.ncq_engine.specs.Spans.{spans}

-- a place lies within a text
pub record IsWithin (text : List ℕ) (span : Span) : Type 0 where
  pub from : span.from ≤ span.to
  pub to : span.to ≤ length text

-- what stands at a place of a text
abbrev pub piece_of : List ℕ → Span → List ℕ
piece_of text span = take (span.to - span.from) (drop span.from text)

-- whether it is the place of a notice of this name
abbrev pub has_name : List ℕ → Span → Bool
has_name name span = bytes_eq name span.name

module _ (language : Language) where
  -- what is shown of the answer to the command with this number: all of it, or the notices of one
  -- name
  abbrev pub shown_answer : Option (List ℕ) → History → ℕ → Command → List ℕ
  shown_answer None history number command = output language history number command
  shown_answer (Some name) history number command =
      unless_refused [] (first_refusal language history command)
      (notices_of language name history command)

  -- of the answers to commands, the first with this number
  abbrev pub shown_of : Option (List ℕ) → History → ℕ → List Command → List ℕ
  shown_of whose history number [] = []
  shown_of whose history number (command ∷ more) = shown_answer whose history number command
      ++ shown_of whose (after language history command) (number + 1) more

  -- where the notices in the answer to the command with this number stand
  abbrev pub answer_spans : History → ℕ → Command → List Span
  answer_spans history number command =
      unless_refused [] (first_refusal language history command)
      (spans language history command (length (ok_text number)))
