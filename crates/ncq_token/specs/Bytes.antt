-- The runs of bytes that tokens are made of, and the texts in quotation marks.
use Rattle.std.specs.Prelude.{ℕ, ◌+◌, Bool, false, ◌&&◌, ◌||◌, not, ◌==◌, if◌then◌else◌, List, []}
use Rattle.std.specs.Prelude.{◌∷◌, Option, Some, None, option_map}
use Rattle.std.specs.List.{prefix_len}
use Rattle.std.specs.Char.{is_ascii_digit}
use Rattle.ncq_base.specs.Names.{is_space, is_name_start, is_name_byte, is_variable_start}

-- what may follow in the name of a variable: an ASCII letter, `_` or a digit
abbrev pub is_variable_byte : ℕ → Bool
is_variable_byte b = is_variable_start b || is_ascii_digit b

-- no white space and none of `<`, `>`, `=`, `"`, `$`, `,`
abbrev pub is_word_byte : ℕ → Bool
is_word_byte b = not (is_space b || (b == 60) || (b == 62) || (b == 61) || (b == 34) || (b == 36)
    || (b == 44))

-- the byte stands in front
abbrev pub starts_with : ℕ → List ℕ → Bool
starts_with b [] = false
starts_with b (first ∷ rest) = first == b

-- the length of the longest name at the front, or 0
abbrev pub name_len : List ℕ → ℕ
name_len [] = 0
name_len (b ∷ bytes) = if is_name_start b then 1 + prefix_len is_name_byte bytes else 0

-- the length of the longest variable name at the front, or 0
abbrev pub variable_len : List ℕ → ℕ
variable_len [] = 0
variable_len (b ∷ bytes) = if is_variable_start b then 1 + prefix_len is_variable_byte bytes else 0

-- the length of the longest word at the front, or 0: a `!` directly before `=` ends it
abbrev pub word_len : List ℕ → ℕ
word_len [] = 0
word_len (b ∷ bytes) =
    if is_word_byte b && not ((b == 33) && starts_with 61 bytes) then 1 + word_len bytes else 0

-- a byte in front of a quoted text
abbrev pub with_byte : ℕ → Option (List ℕ × List ℕ) → Option (List ℕ × List ℕ)
with_byte b found = option_map (λ p. (b ∷ p.0, p.1)) found

-- the next byte of a quoted text, and what stands behind it
abbrev pub quoted_byte : ℕ → List ℕ → ℕ × List ℕ
quoted_byte b [] = (b, [])
quoted_byte b (c ∷ bytes) = if (b == 92) && ((c == 34) || (c == 92)) then (c, bytes)
    else (b, c ∷ bytes)

-- the value of a quoted text behind its first quotation mark, and what stands behind its last
unfoldable pub quoted_at : List ℕ → Option (List ℕ × List ℕ)
quoted_at [] = None
quoted_at (b ∷ []) = if b == 34 then Some ([], []) else None
quoted_at (b ∷ c ∷ bytes) =
    if b == 34 then Some ([], c ∷ bytes)
    else (if (b == 92) && ((c == 34) || (c == 92)) then with_byte c (quoted_at bytes)
    else with_byte b (quoted_at (c ∷ bytes)))
