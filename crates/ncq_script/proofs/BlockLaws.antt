-- What the lines behind an open command give, line by line.
use Rattle.std.proofs.Common.{◌≡◌, ◌++◌, ◌∙◌, ℕ, Bool, true, false, List, [], ◌∷◌, ap, refl, sym, append_assoc, arith, ◌+◌, suc}
use Rattle.std.specs.Prelude.{not, ◌||◌, take, Option, Some, None, IfSome, option_map}
use Rattle.std.specs.Option.{is_some}
use Rattle.std.specs.List.{before_first, list_any, position_or_len}
use Rattle.std.proofs.lemmas.List.{append-nil}
use Rattle.ncq_script.specs.Lines.{LineText}
use Rattle.ncq_script.specs.Commands.{any_long, bytes_of_lines, is_end, commands_of_lines}
use Rattle.ncq_script.specs.OpenCommands.{Ends, commands_behind, ended, joined, lines_so_far}
use Rattle.ncq_script.specs.declared.command_lines.CommandLines.{CommandLines}
use Rattle.ncq_script.specs.declared.command_lines.OpenCommand.{OpenCommand}
use Rattle.ncq_script.specs.OpenCommands.{opened}

pub before_first-no : {X : Type 0} (p : X → Bool) (x : X) (xs : List X) → p x ≡ false → before_first p (x ∷ xs) ≡ x ∷ before_first p xs
before_first-no p x xs fails =
    let one : 1 + position_or_len p xs ≡ suc (position_or_len p xs) = omega arith in
    rw fails (ap (λ (n : ℕ). take n (x ∷ xs)) one)

pub before_first-yes : {X : Type 0} (p : X → Bool) (x : X) (xs : List X) → p x ≡ true → before_first p (x ∷ xs) ≡ []
before_first-yes p x xs passes = rw passes refl

or_false : (b : Bool) → b || false ≡ b
or_false true = refl
or_false false = refl

or_assoc : (a b c : Bool) → (a || b) || c ≡ a || (b || c)
or_assoc true b c = refl
or_assoc false b c = refl

-- a line that ends no block joins it
pub line_joins : (command : CommandLines) (line : LineText) (rest : List LineText) → is_end line ≡ false
    → commands_behind (Some command) (line ∷ rest) ≡ commands_behind (Some (joined line command)) rest
line_joins command line rest goes_on =
    let own = before_first is_end rest in
    let first : before_first is_end (line ∷ rest) ≡ line ∷ own = before_first-no is_end line rest goes_on in
    let block : command.block ++ bytes_of_lines (before_first is_end (line ∷ rest)) ≡ (command.block ++ line.bytes ∷ []) ++ bytes_of_lines own =
    ap (λ (ls : List LineText). command.block ++ bytes_of_lines ls) first ∙ sym (append_assoc command.block (line.bytes ∷ []) (bytes_of_lines own)) in
    let long : command.long || any_long (before_first is_end (line ∷ rest)) ≡ (command.long || line.long) || any_long own =
    ap (λ (ls : List LineText). command.long || any_long ls) first ∙ sym (or_assoc command.long line.long (any_long own)) in
    λ i. record command { block = block i; long = long i; closed = goes_on i || list_any is_end rest } ∷ commands_of_lines (not (goes_on i)) rest

-- a line that ends a block
pub line_ends : (command : CommandLines) (line : LineText) (rest : List LineText) → is_end line ≡ true
    → commands_behind (Some command) (line ∷ rest) ≡ ended true command ∷ commands_of_lines false rest
line_ends command line rest ends =
    let first : before_first is_end (line ∷ rest) ≡ [] = before_first-yes is_end line rest ends in
    let block : command.block ++ bytes_of_lines (before_first is_end (line ∷ rest)) ≡ command.block =
    ap (λ (ls : List LineText). command.block ++ bytes_of_lines ls) first ∙ append-nil command.block in
    let long : command.long || any_long (before_first is_end (line ∷ rest)) ≡ command.long =
    ap (λ (ls : List LineText). command.long || any_long ls) first ∙ or_false command.long in
    λ i. record command { block = block i; long = long i; closed = ends i || list_any is_end rest } ∷ commands_of_lines (not (ends i)) rest

-- nothing follows
pub left_open : (command : CommandLines) → command.closed ≡ false → commands_behind (Some command) [] ≡ command ∷ []
left_open command is_open = λ i. record command { block = append-nil command.block i; long = or_false command.long i; closed = sym is_open i } ∷ []

pub opened_open : (current : Option OpenCommand) → IfSome (opened current) (λ command. command.closed ≡ false)
opened_open None = tt
opened_open (Some command) = refl

-- a line joins the block that is open
pub join_ends : (current : Option OpenCommand) (line : LineText) (after : Option CommandLines) → is_some current ≡ true → is_end line ≡ false
    → after ≡ option_map (joined line) (opened current) → Ends (opened current) line None after
join_ends None line after some goes_on e = let bad : false ≡ true = some in cc
join_ends (Some command) line after some goes_on e = record { given = λ rest. rw e (line_joins (lines_so_far command) line rest goes_on); closed = tt; none = tt }

-- the command whose block is open goes out as it is
pub give_some : (current given : Option CommandLines) (command : CommandLines) → IfSome current (λ c. c.closed ≡ false) → given ≡ option_map (ended false) current → given ≡ Some command → current ≡ Some command
give_some None given command is_open e some = let bad : None ≡ Some command = sym e ∙ some in cc
give_some (Some c) given command is_open e some =
    let same : ended false c ≡ c = λ i. record c { closed = sym is_open i } in
    ap Some (sym same) ∙ sym e ∙ some

pub give_none : (current given : Option CommandLines) → given ≡ option_map (ended false) current → given ≡ None → current ≡ None
give_none None given e none = refl
give_none (Some c) given e none = let bad : Some (ended false c) ≡ None = sym e ∙ none in cc
