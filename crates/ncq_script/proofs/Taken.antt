-- A reader of commands takes lines.
use Rattle.std.proofs.Common.{◌≡◌, ◌+◌, ◌++◌, ◌∙◌, ℕ, true, false, List, [], ◌∷◌, length, ap, refl, sym, append_assoc, arith, length-append}
use Rattle.std.specs.Prelude.{Option, Some, None, slice_get, IfSome}
use Rattle.std.specs.Option.{option_to_list}
use Rattle.std.specs.List.{filter}
use Rattle.std.proofs.lemmas.List.{append-nil, nil_from_length}
use Rattle.std.proofs.lemmas.List.Elements.{filter-append}
use Rattle.ncq_script.specs.Lines.{LineText, known_lines}
use Rattle.ncq_script.specs.LineReading.{LineState, FollowsLines}
use Rattle.ncq_script.specs.Commands.{is_closed, commands_of_lines}
use Rattle.ncq_script.specs.OpenCommands.{commands_behind}
use Rattle.ncq_script.specs.Reading.{Took}
use Rattle.ncq_script.specs.declared.command_lines.CommandLines.{CommandLines}
use Rattle.ncq_script.proofs.BlockLaws.{left_open}

-- no line was taken
pub took_none : (reader : LineState) (pushed : List ℕ) → FollowsLines reader pushed 0 → Took reader None pushed [] []
took_none reader pushed follows = record { lines = follows; front = (known_lines reader.limit reader.finished pushed, refl); gives = λ rest. refl; closed = refl }

-- what stands at the end of a front is the next of the rest
next_of : {X : Type 0} (taken others : List X) (x : X) → slice_get (taken ++ others) (length taken) ≡ Some x → (more : List X) × (others ≡ x ∷ more)
next_of [] [] x at = absurd (cc)
next_of [] (y ∷ more) x at = (more, cc)
next_of (z ∷ taken) others x at = next_of taken others x at

pub at_front : {X : Type 0} (xs ys : List X) (y : X) → slice_get (xs ++ y ∷ ys) (length xs) ≡ Some y
at_front [] ys y = refl
at_front (x ∷ xs) ys y = at_front xs ys y

kept_closed : (given : List CommandLines) (result : Option CommandLines) → filter is_closed given ≡ given → IfSome result (λ command. command.closed ≡ true) → filter is_closed (given ++ option_to_list result) ≡ given ++ option_to_list result
kept_closed given None closed is = rw (append-nil given) closed
kept_closed given (Some command) closed is =
    let this : filter is_closed (command ∷ []) ≡ command ∷ [] = rw is refl in
    filter-append is_closed given (command ∷ []) ∙ λ i. closed i ++ this i

-- one line more
pub took_line : (old new : LineState) (before after : Option CommandLines) (pushed : List ℕ) (taken : List LineText) (given : List CommandLines) (line : LineText) (result : Option CommandLines)
    → Took old before pushed taken given
    → slice_get (known_lines old.limit old.finished pushed) (length taken) ≡ Some line → FollowsLines new pushed (length taken + 1)
    → new.limit ≡ old.limit → new.finished ≡ old.finished
    → ((rest : List LineText) → commands_behind before (line ∷ rest) ≡ option_to_list result ++ commands_behind after rest)
    → IfSome result (λ command. command.closed ≡ true)
    → Took new after pushed (taken ++ line ∷ []) (given ++ option_to_list result)
took_line old new before after pushed taken given line result took is_next follows limit finished gives closed =
    let others = took.front.0 in
    let next = next_of taken others line (rw took.front.1 at is_next) in
    record {
      lines = rw (length-append taken (line ∷ [])) follows;
      front = (next.0, rw (limit, finished) (took.front.1 ∙ ap (λ (ls : List LineText). taken ++ ls) next.1 ∙ sym (append_assoc taken (line ∷ []) next.0)));
      gives = λ rest.
          ap (commands_of_lines false) (append_assoc taken (line ∷ []) rest) ∙ took.gives (line ∷ rest) ∙ ap (λ (cs : List CommandLines). given ++ cs) (gives rest) ∙ sym (append_assoc given (option_to_list result) (commands_behind after rest));
      closed = kept_closed given result took.closed closed;
    }

-- no line is left
pub took_all : (reader : LineState) (current : Option CommandLines) (pushed : List ℕ) (taken : List LineText) (given : List CommandLines)
    → Took reader current pushed taken given → length (known_lines reader.limit reader.finished pushed) ≡ length taken → known_lines reader.limit reader.finished pushed ≡ taken
took_all reader current pushed taken given took count =
    let others = took.front.0 in
    let none : others ≡ [] = nil_from_length others (omega (arith, count, ap length took.front.1, length-append taken others)) in
    took.front.1 ∙ ap (λ (ls : List LineText). taken ++ ls) none ∙ append-nil taken

pub took_commands : (reader : LineState) (current : Option CommandLines) (pushed : List ℕ) (taken : List LineText) (given : List CommandLines)
    → Took reader current pushed taken given → length (known_lines reader.limit reader.finished pushed) ≡ length taken
    → IfSome current (λ command. command.closed ≡ false)
    → commands_of_lines false (known_lines reader.limit reader.finished pushed) ≡ given ++ option_to_list current
took_commands reader None pushed taken given took count is_open =
    ap (commands_of_lines false) (took_all reader None pushed taken given took count ∙ sym (append-nil taken)) ∙ took.gives []
took_commands reader (Some command) pushed taken given took count is_open =
    ap (commands_of_lines false) (took_all reader (Some command) pushed taken given took count ∙ sym (append-nil taken)) ∙ took.gives []
    ∙ ap (λ (cs : List CommandLines). given ++ cs) (left_open command is_open)
