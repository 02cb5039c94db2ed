-- A line that is given again and again.
use Rattle.std.specs.Prelude.{◌+◌, ◌-◌, ◌%◌, ℕ, List, length, map, min, slice_index}
use Rattle.std.specs.List.{range_with_len}
use Rattle.ncq_outside.specs.States.{RepeatState}

-- the line, again and again: so many bytes, from a place on
abbrev pub again : List ℕ → ℕ → ℕ → List ℕ
again line from count =
    map (λ k. slice_index line ((from + k) % length line)) (range_with_len 0 count)

-- how many bytes the next call gives, into so much room: no more than 65,536, and none behind the
-- last
abbrev pub next_count : RepeatState → ℕ → ℕ
next_count source room = min room (min 65536 (source.total - source.given))
