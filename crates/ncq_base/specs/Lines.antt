-- Lines in one text, each ended by a line feed.
use Rattle.std.specs.Prelude.{◌≡◌, ◌==◌, ℕ, Bool, false, List, [], ◌∷◌, ◌++◌, All, if◌then◌else◌}
use Rattle.std.specs.List.{flat_map}

abbrev pub is_feed : ℕ → Bool
is_feed b = b == 10

-- no line feed is among the bytes
abbrev pub IsClean : List ℕ → Type 0
IsClean line = All (λ b. is_feed b ≡ false) line

-- a line and the line feed that ends it
abbrev pub ended : List ℕ → List ℕ
ended line = line ++ 10 ∷ []

-- the text of lines
abbrev pub text_of : List (List ℕ) → List ℕ
text_of lines = flat_map ended lines

-- the byte stands in front of the first line, if a line feed ends one
abbrev pub in_front : ℕ → List (List ℕ) → List (List ℕ)
in_front b [] = []
in_front b (line ∷ lines) = (b ∷ line) ∷ lines

-- the lines that a line feed ends in the text
abbrev pub lines_in : List ℕ → List (List ℕ)
lines_in [] = []
lines_in (b ∷ text) = if is_feed b then [] ∷ lines_in text else in_front b (lines_in text)
