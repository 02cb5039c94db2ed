-- The texts of intervals.
use Rattle.std.specs.Prelude.{ℕ, List, ◌++◌, codes}
use Rattle.ncq_base.specs.declared.interval.End.{End}
use Rattle.ncq_base.specs.declared.interval.End.TheVariants.{Unbounded, Included, Excluded}
use Rattle.ncq_base.specs.declared.interval.Interval.{Interval}
use Rattle.ncq_base.specs.AtomTexts.{number_text}

-- an end that is not there is `-` with a round bracket
abbrev pub low_text : End → List ℕ
low_text Unbounded = codes "(-"
low_text (Included low) = codes "[" ++ number_text low
low_text (Excluded low) = codes "(" ++ number_text low

abbrev pub high_text : End → List ℕ
high_text Unbounded = codes "-)"
high_text (Included high) = number_text high ++ codes "]"
high_text (Excluded high) = number_text high ++ codes ")"

abbrev pub interval_text : Interval → List ℕ
interval_text interval = low_text interval.low ++ codes "," ++ high_text interval.high
