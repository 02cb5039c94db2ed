-- The tokens of a text: what stands at the front, row by row, and one behind the other.
use Rattle.std.specs.Prelude.{◌≡◌, ◌++◌, ℕ, zero, suc, ◌+◌, ◌-◌, Bool, true, false, ◌&&◌, ◌||◌}
use Rattle.std.specs.Prelude.{◌==◌, nat_lt, if◌then◌else◌, List, [], ◌∷◌, take, length, ◌≤◌, ◌<◌}
use Rattle.std.specs.Prelude.{Option, Some, None, option_map, Result, Ok, Err}
use Rattle.ncq_base.specs.declared.atom.Op.TheVariants.{Eq, Ne, Lt, Le, Gt, Ge}
use Rattle.ncq_token.specs.declared.token.Token.{Token}
use Rattle.ncq_token.specs.declared.token.Token.TheVariants.{TagStart, TagEnd, TagClose, EmptyClose}
use Rattle.ncq_token.specs.declared.token.Token.TheVariants.{Name, Variable, Quoted, Word, Cmp}
use Rattle.ncq_token.specs.declared.token.Token.TheVariants.{Comma, Dot, Bar, Star, Plus}
use Rattle.ncq_token.specs.declared.token.Token.TheVariants.{Open, Shut}
use Rattle.ncq_token.specs.declared.token.TokenError.{TokenError}
use Rattle.ncq_token.specs.declared.token.TokenError.TheVariants.{OutOfMemory, BadByte}
use Rattle.ncq_base.specs.Names.{is_space, is_name_start}
use Rattle.ncq_token.specs.Bytes.{starts_with, name_len, variable_len, word_len, quoted_at}

-- a token at the front, and how many bytes it takes
abbrev pub Found : Type 0
Found = Option (Token × ℕ)

-- a name begins there
abbrev pub starts_name : List ℕ → Bool
starts_name [] = false
starts_name (b ∷ bytes) = is_name_start b

-- behind `<`
abbrev pub less_at : List ℕ → Token × ℕ
less_at bytes =
    if starts_with 47 bytes then (TagEnd, 2)
    else (if starts_with 61 bytes then (Cmp Le, 2)
    else (if starts_name bytes || starts_with 40 bytes then (TagStart, 1)
    else (Cmp Lt, 1)))

-- behind `$`
abbrev pub variable_at : List ℕ → Found
variable_at bytes = let n = variable_len bytes
    in if nat_lt 0 n then Some (Variable (take n bytes), 1 + n) else None

-- behind `"`
abbrev pub text_at : List ℕ → Found
text_at bytes = option_map (λ p. (Quoted p.0, 1 + (length bytes - length p.1))) (quoted_at bytes)

-- a word, outside a tag
abbrev pub word_at : List ℕ → Found
word_at bytes = let n = word_len bytes in if nat_lt 0 n then Some (Word (take n bytes), n) else None

-- a name, inside a tag
abbrev pub name_at : List ℕ → Found
name_at bytes = let n = name_len bytes in if nat_lt 0 n then Some (Name (take n bytes), n) else None

-- a token takes a byte at least, and no more than there are
abbrev pub IsWithin : ℕ → Found → Type 0
IsWithin room None = Unit {0}
IsWithin room (Some found) = (0 < found.1) × (found.1 ≤ room)

-- the longest token at the front, outside a tag
unfoldable pub outside_at : List ℕ → Found
outside_at [] = None
outside_at (b ∷ bytes) =
    if b == 60 then Some (less_at bytes)
    else (if b == 62 then Some (if starts_with 61 bytes then (Cmp Ge, 2) else (Cmp Gt, 1))
    else (if b == 61 then Some (Cmp Eq, 1)
    else (if b == 44 then Some (Comma, 1)
    else (if b == 36 then variable_at bytes
    else (if b == 34 then text_at bytes
    else (if (b == 33) && starts_with 61 bytes then Some (Cmp Ne, 2)
    else word_at (b ∷ bytes)))))))

-- the longest token at the front, inside a tag
unfoldable pub inside_at : List ℕ → Found
inside_at [] = None
inside_at (b ∷ bytes) =
    if b == 61 then Some (Cmp Eq, 1)
    else (if b == 62 then Some (TagClose, 1)
    else (if (b == 47) && starts_with 62 bytes then Some (EmptyClose, 2)
    else (if b == 46 then Some (Dot, 1)
    else (if b == 124 then Some (Bar, 1)
    else (if b == 42 then Some (Star, 1)
    else (if b == 43 then Some (Plus, 1)
    else (if b == 40 then Some (Open, 1)
    else (if b == 41 then Some (Shut, 1)
    else (if b == 36 then variable_at bytes
    else (if b == 34 then text_at bytes
    else name_at (b ∷ bytes)))))))))))

-- the longest token at the front
unfoldable pub token_at : Bool → List ℕ → Found
token_at true bytes = inside_at bytes
token_at false bytes = outside_at bytes

-- whether the tokeniser is inside a tag behind a token
abbrev pub inside_after : Bool → Token → Bool
inside_after inside TagStart = true
inside_after inside TagEnd = true
inside_after inside TagClose = false
inside_after inside EmptyClose = false
inside_after inside (Name n) = inside
inside_after inside (Variable n) = inside
inside_after inside (Quoted n) = inside
inside_after inside (Word n) = inside
inside_after inside (Cmp o) = inside
inside_after inside Comma = inside
inside_after inside Dot = inside
inside_after inside Bar = inside
inside_after inside Star = inside
inside_after inside Plus = inside
inside_after inside Open = inside
inside_after inside Shut = inside

-- the tokens, or the offset where none stands
abbrev pub Read : Type 0
Read = Result (List Token) ℕ

-- tokens in front of what is read behind them
abbrev pub with_front : List Token → Read → Read
with_front front (Ok tokens) = Ok (front ++ tokens)
with_front front (Err at) = Err at

-- The tokens from a byte on, or the place where none stands. The first `skip` bytes are of the
-- token before.
unfoldable pub tokens_from : Bool → ℕ → ℕ → List ℕ → Read
tokens_from inside at skip [] = Ok []
tokens_from inside at (suc skip) (b ∷ bytes) = tokens_from inside (at + 1) skip bytes
tokens_from inside at zero (b ∷ bytes) =
    if is_space b then tokens_from inside (at + 1) 0 bytes
    else (elim (token_at inside (b ∷ bytes)) [
      | None ↦ Err at
      | Some found ↦ with_front (found.0 ∷ [])
          (tokens_from (inside_after inside found.0) (at + 1) (found.1 - 1) bytes)
    ])

-- the tokens of a text, or the offset where no token stands
abbrev pub tokens_of : List ℕ → Read
tokens_of text = tokens_from false 0 0 text

-- what a call answered is what is read, unless memory ran out
abbrev pub Gives : Result (List Token) TokenError → Read → Type 0
Gives (Ok tokens) read = read ≡ Ok tokens
Gives (Err OutOfMemory) read = Unit {0}
Gives (Err (BadByte at)) read = read ≡ Err at
