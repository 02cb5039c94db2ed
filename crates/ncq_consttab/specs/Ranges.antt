-- Intervals with files.
use Rattle.std.specs.Prelude.{Bool, List, map, filter}
use Rattle.std.specs.List.{list_any}
use Rattle.ncq_base.specs.declared.atom.Atom.{Atom}
use Rattle.ncq_base.specs.declared.atom.FileId.{FileId}
use Rattle.ncq_base.specs.declared.interval.Interval.{Interval}
use Rattle.ncq_base.specs.contracts.interval.IntervalPartialEq.TheImpl.{ghosts as interval_eq}
use Rattle.ncq_base.specs.Intervals.{in_interval}

-- whether the two have the same ends
abbrev pub is_interval : Interval → Interval → Bool
is_interval = interval_eq.eq

-- the files of the intervals that hold the value
abbrev pub holders : Atom → List (Interval × FileId) → List FileId
holders value pairs = map (λ p. p.1) (filter (λ p. in_interval p.0 value) pairs)

-- whether some of the intervals holds the value
abbrev pub is_held_by : List Interval → Atom → Bool
is_held_by intervals value = list_any (λ interval. in_interval interval value) intervals
