-- The escapes of texts, values and keys: a backslash before n, t, r or a backslash.
use Rattle.std.specs.Prelude.{ℕ, Bool, true, false, not, ◌&&◌, ◌==◌, List, [], ◌∷◌, ◌++◌}
use Rattle.std.specs.Prelude.{if◌then◌else◌}
use Rattle.std.specs.List.{flat_map}

-- what a backslash and this byte stand for
abbrev pub meant : ℕ → List ℕ
meant b =
    if b == 110 then 10 ∷ [] else
    (if b == 116 then 9 ∷ [] else
    (if b == 114 then 13 ∷ [] else
    (if b == 92 then 92 ∷ [] else
    92 ∷ b ∷ [])))

-- what the bytes stand for, behind a backslash or not
abbrev pub unescaped_behind : Bool → List ℕ → List ℕ
unescaped_behind true [] = 92 ∷ []
unescaped_behind false [] = []
unescaped_behind true (b ∷ more) = meant b ++ unescaped_behind false more
unescaped_behind false (b ∷ more) = if b == 92 then unescaped_behind true more
    else b ∷ unescaped_behind false more

-- what a text stands for: a backslash before n, t, r or a backslash is an escape, and else stands
-- for itself
abbrev pub unescaped : List ℕ → List ℕ
unescaped = unescaped_behind false

abbrev pub escaped_byte : ℕ → List ℕ
escaped_byte b =
    if b == 10 then 92 ∷ 110 ∷ [] else
    (if b == 9 then 92 ∷ 116 ∷ [] else
    (if b == 13 then 92 ∷ 114 ∷ [] else
    (if b == 92 then 92 ∷ 92 ∷ [] else
    b ∷ [])))

-- a byte that is written as it stands
abbrev pub is_plain : ℕ → Bool
is_plain b = not (b == 10) && (not (b == 9) && (not (b == 13) && not (b == 92)))

-- a byte that is read as it stands
abbrev pub is_literal : ℕ → Bool
is_literal b = not (b == 92)

-- the text with its escapes
abbrev pub escaped : List ℕ → List ℕ
escaped text = flat_map escaped_byte text
