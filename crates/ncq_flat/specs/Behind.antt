-- Where the lines of an element end.
use Rattle.std.specs.Prelude.{ℕ, ◌+◌, ◌-◌, ◌==◌, Bool, false, List, [], ◌∷◌, if◌then◌else◌}
use Rattle.std.specs.Prelude.{Option, Some, None}

-- the line begins with the byte
abbrev pub has_mark : ℕ → List ℕ → Bool
has_mark mark [] = false
has_mark mark (b ∷ line) = b == mark

-- what stands behind the line that closes the element inside which so many others are open
abbrev pub behind : ℕ → List (List ℕ) → List (List ℕ)
behind depth [] = []
behind depth (line ∷ lines) = if has_mark 40 line then behind (depth + 1) lines
    else (if has_mark 41 line then (if depth == 0 then lines else behind (depth - 1) lines)
    else behind depth lines)

-- the same, behind a line that closes the element, or leaves so many open
abbrev pub left : Option ℕ → List (List ℕ) → List (List ℕ)
left None lines = lines
left (Some depth) lines = behind depth lines
