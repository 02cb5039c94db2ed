-- Intervals of numbers.
use Rattle.std.specs.Prelude.{ℤ, Bool, true, false, ◌&&◌, int_le, int_lt}
use Rattle.ncq_base.specs.declared.atom.Atom.{Atom}
use Rattle.ncq_base.specs.declared.atom.Atom.TheVariants.{Num, Text}
use Rattle.ncq_base.specs.declared.interval.End.{End}
use Rattle.ncq_base.specs.declared.interval.End.TheVariants.{Unbounded, Included, Excluded}
use Rattle.ncq_base.specs.declared.interval.Interval.{Interval}

-- whether a number is not below the low end
abbrev pub is_above : End → ℤ → Bool
is_above Unbounded n = true
is_above (Included low) n = int_le low n
is_above (Excluded low) n = int_lt low n

-- whether a number is not above the high end
abbrev pub is_below : End → ℤ → Bool
is_below Unbounded n = true
is_below (Included high) n = int_le n high
is_below (Excluded high) n = int_lt n high

-- whether an atom is a number in the interval; a text is in none
abbrev pub in_interval : Interval → Atom → Bool
in_interval interval (Num n) = is_above interval.low n && is_below interval.high n
in_interval interval (Text text) = false
