-- A reader of lines, as contracts see it. A caller needs `FollowsLines` alone, and not what it
-- says.
use Rattle.std.specs.Prelude.{◌≡◌, ◌≤◌, ◌+◌, ℕ, Bool, true, List, [], ◌++◌, length}
use Rattle.std.specs.Prelude.{take, All, nat_lt, ◌⊎◌}
use Rattle.std.specs.List.{flat_map}
use Rattle.ncq_base.specs.Lines.{IsClean, ended}
use Rattle.ncq_script.specs.Lines.{lines}

-- the front of the line that is not whole, whether more of it came than is kept, the bytes not yet
-- looked at, and whether the end was marked
pub record LineState : Type 0 where
  pub limit : ℕ
  pub kept : List ℕ
  pub over : Bool
  pub ahead : List ℕ
  pub finished : Bool

-- all pieces were looked at and are gone, and of the line that is not whole no more is kept than
-- the limit and one byte
pub record IsLean (reader : LineState) : Type 0 where
  pub none : reader.ahead ≡ []
  pub few : length reader.kept ≤ reader.limit + 1

-- so much of a part is kept that its line can be told
pub record IsKept (limit : ℕ) (kept : List ℕ) (over : Bool) (part : List ℕ) : Type 0 where
  pub front : kept ≡ take (limit + 1) part
  pub more : over ≡ nat_lt (limit + 1) (length part)

-- the reader has given the lines of these parts, and stands in this part
pub record Stands (reader : LineState) (pushed : List ℕ) (given : List (List ℕ))
    (part : List ℕ) : Type 0 where
  pub bytes : pushed ≡ flat_map ended given ++ (part ++ reader.ahead)
  pub clean : All IsClean given
  pub clean_part : IsClean part
  pub kept : IsKept reader.limit reader.kept reader.over part

-- all lines were given, also the last that no line feed ended
pub record IsSpent (reader : LineState) (pushed : List ℕ) (count : ℕ) : Type 0 where
  pub finished : reader.finished ≡ true
  pub nothing : length reader.ahead ≡ 0
  pub none_kept : IsKept reader.limit reader.kept reader.over []
  pub all : length (lines reader.limit pushed) ≡ count

-- the reader was pushed these bytes, and gave so many lines
unfoldable pub FollowsLines : LineState → List ℕ → ℕ → Type 0
FollowsLines reader pushed count
    = ((given : List (List ℕ)) × (part : List ℕ)
    × Stands reader pushed given part × (length given ≡ count))
    ⊎ IsSpent reader pushed count
