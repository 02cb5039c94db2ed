-- What callers use of the commands of a script.
use Rattle.std.proofs.Common.{◌≡◌, ◌≤◌, ◌++◌, ◌∙◌, inl, inr, ℕ, Bool, true, false, List, [], ◌∷◌, length, ap, refl, sym, arith}
use Rattle.std.specs.Prelude.{Option, Some, None, not, ◌||◌}
use Rattle.std.specs.List.{filter, before_first, list_any}
use Rattle.std.proofs.lemmas.Bool.{cases_Bool}
use Rattle.std.proofs.lemmas.List.Elements.{filter-append}
use Rattle.ncq_script.specs.Lines.{LineText, lines, whole_lines}
use Rattle.ncq_script.proofs.LineLaws.{whole_grow, lines_grow, few_lines, few_whole}
use Rattle.ncq_script.specs.Words.{begins}
use Rattle.ncq_script.specs.Commands.{is_end, is_closed, opens_block, command_of, with_block, commands_of_lines, commands, whole_commands, known_commands}
use Rattle.ncq_script.specs.declared.command_lines.CommandLines.{CommandLines}
use Rattle.ncq_script.specs.declared.word.Keyword.{Keyword}
use Rattle.ncq_script.proofs.BlockLaws.{before_first-no, before_first-yes}

-- a block without an end takes all lines
pub none_behind : (ls : List LineText) → list_any is_end ls ≡ false → commands_of_lines true ls ≡ []
none_behind [] none = refl
none_behind (line ∷ ls) none =
    elim (cases_Bool (is_end line)) [
      | inl ends ↦ let bad : true ≡ false = ap (λ (b : Bool). b || list_any is_end ls) (sym ends) ∙ none in cc
      | inr goes_on ↦ rw goes_on (none_behind ls (rw goes_on at none))
    ]

-- a block with its end takes no more
pub block_stands : (ls more : List LineText) → list_any is_end ls ≡ true → (before_first is_end (ls ++ more) ≡ before_first is_end ls) × (list_any is_end (ls ++ more) ≡ true)
block_stands [] more some = let bad : false ≡ true = some in cc
block_stands (line ∷ ls) more some =
    elim (cases_Bool (is_end line)) [
      | inl ends ↦ (before_first-yes is_end line (ls ++ more) ends ∙ sym (before_first-yes is_end line ls ends), ap (λ (b : Bool). b || list_any is_end (ls ++ more)) ends)
      | inr goes_on ↦ let rest = block_stands ls more (rw goes_on at some) in (
        before_first-no is_end line (ls ++ more) goes_on ∙ ap (λ (xs : List LineText). line ∷ xs) rest.0 ∙ sym (before_first-no is_end line ls goes_on),
        rw goes_on rest.1,
      )
    ]

-- the first command and those behind it
abbrev begun : LineText → List LineText → Option Keyword → List CommandLines
begun line more None = commands_of_lines false more
begun line more (Some keyword) = command_of keyword line more ∷ commands_of_lines (opens_block keyword) more

-- the closed commands of before stand in front
abbrev Grows : List CommandLines → List CommandLines → Type 0
Grows before after = (others : List CommandLines) × (after ≡ filter is_closed before ++ others)

single_grows : (keyword : Keyword) (line : LineText) (ls more : List LineText) → opens_block keyword ≡ false → Grows (commands_of_lines false ls) (commands_of_lines false (ls ++ more)) → Grows (begun line ls (Some keyword)) (begun line (ls ++ more) (Some keyword))
single_grows keyword line ls more single rest = (
  rest.0,
  rw single (ap (λ (cs : List CommandLines). record { keyword = keyword; head = line.bytes; block = []; long = line.long; closed = true } ∷ cs) rest.1),
)

block_grows : (keyword : Keyword) (line : LineText) (ls more : List LineText) → opens_block keyword ≡ true → Grows (commands_of_lines true ls) (commands_of_lines true (ls ++ more)) → Grows (begun line ls (Some keyword)) (begun line (ls ++ more) (Some keyword))
block_grows keyword line ls more block rest =
    elim (cases_Bool (list_any is_end ls)) [
      | inl ends ↦ let same = block_stands ls more ends in (
        rest.0,
        rw (block, ends, same.1, same.0) (ap (λ (cs : List CommandLines). with_block keyword line (before_first is_end ls) true ∷ cs) rest.1),
      )
      | inr never ↦ let none = none_behind ls never in (begun line (ls ++ more) (Some keyword), rw (block, never, none) refl)
    ]

begun_grows : (b : Option Keyword) (line : LineText) (ls more : List LineText) → ((inside : Bool) → Grows (commands_of_lines inside ls) (commands_of_lines inside (ls ++ more))) → Grows (begun line ls b) (begun line (ls ++ more) b)
begun_grows None line ls more rest = rest false
begun_grows (Some keyword) line ls more rest =
    elim (cases_Bool (opens_block keyword)) [
      | inl block ↦ block_grows keyword line ls more block (rest true)
      | inr single ↦ single_grows keyword line ls more single (rest false)
    ]

-- more lines leave the closed commands in front
pub closed_grow : (inside : Bool) (ls more : List LineText) → Grows (commands_of_lines inside ls) (commands_of_lines inside (ls ++ more))
closed_grow inside [] more = (commands_of_lines inside more, refl)
closed_grow true (line ∷ ls) more = closed_grow (not (is_end line)) ls more
closed_grow false (line ∷ ls) more = begun_grows (begins line.bytes) line ls more (λ inside. closed_grow inside ls more)

closed_twice : (cs : List CommandLines) → filter is_closed (filter is_closed cs) ≡ filter is_closed cs
closed_twice [] = refl
closed_twice (command ∷ cs) =
    elim (cases_Bool command.closed) [
      | inl ends ↦ rw ends (ap (λ (all : List CommandLines). record command { closed = true } ∷ all) (closed_twice cs))
      | inr goes_on ↦ rw goes_on (closed_twice cs)
    ]

-- more bytes leave the whole commands in front
pub whole_commands_grow : (limit : ℕ) (bytes more : List ℕ) → (others : List CommandLines) × (whole_commands limit (bytes ++ more) ≡ whole_commands limit bytes ++ others)
unfolding whole_commands
whole_commands_grow limit bytes more =
    let grow = whole_grow limit bytes more in
    let closed = closed_grow false (whole_lines limit bytes) grow.0 in
    let front = commands_of_lines false (whole_lines limit bytes) in
    (filter is_closed closed.0, ap (λ (ls : List LineText). filter is_closed (commands_of_lines false ls)) grow.1 ∙ ap (filter is_closed) closed.1 ∙ filter-append is_closed (filter is_closed front) closed.0 ∙ ap (λ (cs : List CommandLines). cs ++ filter is_closed closed.0) (closed_twice front))

-- also where the end is marked behind them
pub commands_grow : (limit : ℕ) (bytes more : List ℕ) → (others : List CommandLines) × (commands limit (bytes ++ more) ≡ whole_commands limit bytes ++ others)
unfolding commands whole_commands
commands_grow limit bytes more =
    let grow = lines_grow limit bytes more in
    let closed = closed_grow false (whole_lines limit bytes) grow.0 in
    (closed.0, ap (commands_of_lines false) grow.1 ∙ closed.1)

few_begun : (b : Option Keyword) (line : LineText) (ls : List LineText) → ((inside : Bool) → length (commands_of_lines inside ls) ≤ length ls) → length (begun line ls b) ≤ length (line ∷ ls)
few_begun None line ls few = omega (arith, few false)
few_begun (Some keyword) line ls few = omega (arith, few (opens_block keyword))

-- each command takes a line
pub few_commands : (inside : Bool) (ls : List LineText) → length (commands_of_lines inside ls) ≤ length ls
few_commands inside [] = omega arith
few_commands true (line ∷ ls) = omega (arith, few_commands (not (is_end line)) ls)
few_commands false (line ∷ ls) = few_begun (begins line.bytes) line ls (λ inside. few_commands inside ls)

few_closed : (cs : List CommandLines) → length (filter is_closed cs) ≤ length cs
few_closed [] = omega arith
few_closed (command ∷ cs) = elim (cases_Bool command.closed) [ inl ends ↦ rw ends (omega (arith, few_closed cs)) | inr goes_on ↦ rw goes_on (omega (arith, few_closed cs)) ]

-- each command takes a byte
pub few_known_commands : (limit : ℕ) (finished : Bool) (bytes : List ℕ) → length (known_commands limit finished bytes) ≤ length bytes
unfolding commands whole_commands
few_known_commands limit true bytes = omega (arith, few_commands false (lines limit bytes), few_lines limit bytes)
few_known_commands limit false bytes = omega (arith, few_closed (commands_of_lines false (whole_lines limit bytes)), few_commands false (whole_lines limit bytes), few_whole limit bytes)
