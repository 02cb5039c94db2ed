-- Names and the bytes that they are made of.
use Rattle.std.specs.Prelude.{ℕ, Bool, false, ◌&&◌, ◌||◌, not, ◌==◌, nat_le, nat_lt, List, [], ◌∷◌}
use Rattle.std.specs.Prelude.{length}
use Rattle.std.specs.List.{list_all}
use Rattle.std.specs.Char.{is_ascii_digit, is_ascii_alphabetic}

-- white space: space, tab, line feed and carriage return
abbrev pub is_space : ℕ → Bool
is_space b = (b == 32) || (b == 9) || (b == 10) || (b == 13)

-- neither white space nor a backslash
abbrev pub is_pyx_name_byte : ℕ → Bool
is_pyx_name_byte b = not (is_space b || (b == 92))

-- the name of an element or an attribute: one byte or more, none of them white space or a backslash
abbrev pub is_pyx_name : List ℕ → Bool
is_pyx_name text = nat_lt 0 (length text) && list_all is_pyx_name_byte text

-- an ASCII letter or `_`
abbrev pub is_variable_start : ℕ → Bool
is_variable_start b = is_ascii_alphabetic b || (b == 95)

-- an ASCII letter, `_`, or a byte from 128 on
abbrev pub is_name_start : ℕ → Bool
is_name_start b = is_variable_start b || nat_le 128 b

-- what may follow in a name of a statement: these, digits, `-` and `:`
abbrev pub is_name_byte : ℕ → Bool
is_name_byte b = is_name_start b || is_ascii_digit b || (b == 45) || (b == 58)

-- a name in a statement
abbrev pub is_name : List ℕ → Bool
is_name [] = false
is_name (b ∷ rest) = is_name_start b && list_all is_name_byte rest
