-- Ranges of slots, one interval for each slot.
use Rattle.std.specs.Prelude.{ℤ, int_lt, if◌then◌else◌, List, [], ◌∷◌}
use Rattle.std.specs.declared.cmp.Ordering.TheVariants.{Less, Equal as Same, Greater}
use Rattle.std.specs.Ordering.{nat_cmp}
use Rattle.ncq_base.specs.declared.atom.Op.{Op}
use Rattle.ncq_base.specs.declared.atom.Op.TheVariants.{Eq, Ne, Lt, Le, Gt, Ge}
use Rattle.ncq_base.specs.declared.interval.End.{End}
use Rattle.ncq_base.specs.declared.interval.End.TheVariants.{Unbounded, Included, Excluded}
use Rattle.ncq_base.specs.declared.interval.Interval.{Interval}
use Rattle.ncq_plan.specs.declared.query.Within.{Within}

-- the numbers on one side of a number
abbrev pub one_sided : Op → ℤ → Interval
one_sided Lt n = record { low = Unbounded; high = Excluded n }
one_sided Le n = record { low = Unbounded; high = Included n }
one_sided Gt n = record { low = Excluded n; high = Unbounded }
one_sided Ge n = record { low = Included n; high = Unbounded }
one_sided Eq n = record { low = Unbounded; high = Unbounded }
one_sided Ne n = record { low = Unbounded; high = Unbounded }

-- the greater of two low ends; between equal numbers the excluded one
abbrev pub higher : End → End → End
higher Unbounded b = b
higher (Included m) Unbounded = Included m
higher (Excluded m) Unbounded = Excluded m
higher (Included m) (Included n) = if int_lt m n then Included n else Included m
higher (Included m) (Excluded n) = if int_lt n m then Included m else Excluded n
higher (Excluded m) (Included n) = if int_lt m n then Included n else Excluded m
higher (Excluded m) (Excluded n) = if int_lt m n then Excluded n else Excluded m

-- the lesser of two high ends; between equal numbers the excluded one
abbrev pub lower : End → End → End
lower Unbounded b = b
lower (Included m) Unbounded = Included m
lower (Excluded m) Unbounded = Excluded m
lower (Included m) (Included n) = if int_lt n m then Included n else Included m
lower (Included m) (Excluded n) = if int_lt m n then Included m else Excluded n
lower (Excluded m) (Included n) = if int_lt n m then Included n else Excluded m
lower (Excluded m) (Excluded n) = if int_lt n m then Excluded n else Excluded m

-- what lies in both
abbrev pub both : Interval → Interval → Interval
both a b = record { low = higher a.low b.low; high = lower a.high b.high }

-- the slot within both
abbrev pub within_both : Within → Within → Within
within_both a b = record { slot = a.slot; interval = both a.interval b.interval }

-- a range put in its place by its slot; where the slot has one already, both are asked
abbrev pub insert_range : Within → List Within → List Within
insert_range w [] = w ∷ []
insert_range w (other ∷ more) =
    elim (nat_cmp w.slot other.slot) [
      | Less ↦ w ∷ other ∷ more
      | Same ↦ within_both other w ∷ more
      | Greater ↦ other ∷ insert_range w more
    ]

-- the ranges put one by one into those that are sorted already
abbrev pub ranges_onto : List Within → List Within → List Within
ranges_onto done [] = done
ranges_onto done (w ∷ more) = ranges_onto (insert_range w done) more
