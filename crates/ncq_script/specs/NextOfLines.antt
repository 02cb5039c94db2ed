-- What a reader of lines has next.
use Rattle.std.specs.Prelude.{◌≡◌, ◌+◌, ◌<◌, ◌≤◌, ◌⊎◌, ◌++◌, ◌∷◌, [], ℕ, true, false, List, length}
use Rattle.std.specs.Prelude.{take, drop}
use Rattle.ncq_base.specs.Lines.{IsClean}
use Rattle.ncq_script.specs.Lines.{known_lines}
use Rattle.ncq_script.specs.LineReading.{LineState, FollowsLines}
use Rattle.ncq_script.specs.declared.line.Found.{Found}
use Rattle.ncq_script.specs.declared.line.Found.TheVariants.{Line, Wanting, End}

-- a line feed stands behind so many bytes; or none are ahead, the end was marked, and something is
-- kept
abbrev pub EndsLine : LineState → ℕ → Type 0
EndsLine reader len =
    (reader.ahead ≡ take len reader.ahead ++ 10 ∷ drop (len + 1) reader.ahead)
    ⊎ ((reader.ahead ≡ []) × (reader.finished ≡ true) × (0 < length reader.kept))

-- so many of the bytes ahead end the next line: they are the whole of it, or what is kept is
pub record IsReady (reader : LineState) (len : ℕ) : Type 0 where
  pub alone : (length reader.kept ≡ 0) ⊎ (len ≡ 0)
  pub within : len ≤ length reader.ahead
  pub clean : IsClean (take len reader.ahead)
  pub ends : EndsLine reader len

-- the reader behind that line
abbrev pub passed : LineState → ℕ → LineState
passed reader len = record {
  limit = reader.limit;
  kept = [];
  over = false;
  ahead = drop (len + 1) reader.ahead;
  finished = reader.finished;
}

-- of the bytes pushed, with so many lines given before, this was found
abbrev pub IsFound : LineState → LineState → List ℕ → ℕ → Found → Type 0
IsFound old new pushed count (Line len) = FollowsLines new pushed count
IsFound old new pushed count Wanting = (old.finished ≡ false)
    × (length (known_lines old.limit old.finished pushed) ≡ count) × FollowsLines new pushed count
IsFound old new pushed count End = (old.finished ≡ true)
    × (length (known_lines old.limit old.finished pushed) ≡ count) × FollowsLines new pushed count
