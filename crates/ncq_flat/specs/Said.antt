-- The texts inside an element, found on its lines.
use Rattle.std.specs.Prelude.{ℕ, ◌+◌, ◌-◌, ◌==◌, List, [], ◌∷◌, ◌++◌, if◌then◌else◌}
use Rattle.std.specs.Prelude.{Option, Some, None}
use Rattle.ncq_base.specs.Escapes.{unescaped}
use Rattle.ncq_tree.specs.Texts.{Strings, joined}
use Rattle.ncq_flat.specs.Behind.{has_mark}

-- the text of a line, if it is one
abbrev pub said_in : List ℕ → Strings
said_in [] = []
said_in (mark ∷ word) = if mark == 45 then unescaped word ∷ [] else []

-- the texts from inside an element on, up to the line that closes it; so many others are open
abbrev pub texts_in : ℕ → List (List ℕ) → Strings
texts_in depth [] = []
texts_in depth (line ∷ lines) = said_in line ++ (if has_mark 40 line then texts_in (depth + 1) lines
    else (if has_mark 41 line then (if depth == 0 then [] else texts_in (depth - 1) lines)
    else texts_in depth lines))

-- the same, behind a line that closes the element, or leaves so many open
abbrev pub texts_left : Option ℕ → List (List ℕ) → Strings
texts_left None lines = []
texts_left (Some depth) lines = texts_in depth lines

-- the string value of the element inside which the lines begin
abbrev pub string_value_in : List (List ℕ) → List ℕ
string_value_in lines = joined (texts_in 0 lines)
