-- The lines of a script: what stands between line feeds, cut at a limit.
use Rattle.std.specs.Prelude.{ℕ, Bool, List, [], ◌∷◌, length, take, nat_lt, if◌then◌else◌}
use Rattle.std.specs.List.{slice_split}
use Rattle.std.specs.Str.Lines.{strip_carriage_return}
use Rattle.ncq_base.specs.Lines.{is_feed}

-- a line: its bytes up to the limit, and whether it was longer
pub record LineText : Type 0 where
  pub bytes : List ℕ
  pub long : Bool

-- the line of what stands between two line feeds: one carriage return at its end is dropped, and
-- what is longer than the limit is cut there and marked long
abbrev pub line_at : ℕ → List ℕ → LineText
line_at limit part = record {
  bytes = take limit (strip_carriage_return part);
  long = nat_lt limit (length (strip_carriage_return part));
}

-- what stands behind the last line feed is a line if it is not empty
abbrev pub last_line : ℕ → List ℕ → List LineText
last_line limit [] = []
last_line limit (b ∷ bytes) = line_at limit (b ∷ bytes) ∷ []

-- the lines of the parts between line feeds
abbrev pub lines_of_parts : ℕ → List (List ℕ) → List LineText
lines_of_parts limit [] = []
lines_of_parts limit (part ∷ []) = last_line limit part
lines_of_parts limit (part ∷ next ∷ more) = line_at limit part ∷ lines_of_parts limit (next ∷ more)

-- those without the last part, which no line feed ends
abbrev pub whole_of_parts : ℕ → List (List ℕ) → List LineText
whole_of_parts limit [] = []
whole_of_parts limit (part ∷ []) = []
whole_of_parts limit (part ∷ next ∷ more) = line_at limit part ∷ whole_of_parts limit (next ∷ more)

-- the lines of a script
unfoldable pub lines : ℕ → List ℕ → List LineText
lines limit bytes = lines_of_parts limit (slice_split is_feed bytes)

-- the lines that a line feed ends
unfoldable pub whole_lines : ℕ → List ℕ → List LineText
whole_lines limit bytes = whole_of_parts limit (slice_split is_feed bytes)

-- the lines that can be told: all of them once the end is marked
abbrev pub known_lines : ℕ → Bool → List ℕ → List LineText
known_lines limit finished bytes = if finished then lines limit bytes else whole_lines limit bytes
