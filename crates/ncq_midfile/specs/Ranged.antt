-- What holds of every range file. Only the crate's private clauses cite it.
use Rattle.std.specs.Prelude.{ℕ, Bool, ◌&&◌, nat_le, List}
use Rattle.std.specs.List.{All}
use Rattle.ncq_base.specs.declared.interval.Interval.{Interval}
use Rattle.ncq_midfile.specs.Files.{AreNumbered}
use Rattle.ncq_midfile.specs.Finders.{AreFinders}
use Rattle.ncq_midfile.specs.Views.{HasNumber, is_within}
use Rattle.ncq_midfile.specs.declared.finder.Finder.{Finder}
use Rattle.ncq_midfile.specs.declared.signed.SignedRow.{SignedRow}

-- each of the rows has a number in the slot
abbrev pub HaveNumbers : ℕ → List SignedRow → Type 0
HaveNumbers slot rows = All (λ r. HasNumber slot r.row) rows

-- whether the signed row has a number up to n, and a number of the interval in the slot
abbrev pub is_early : ℕ → Interval → ℕ → SignedRow → Bool
is_early slot interval n r = nat_le r.number n && is_within slot interval r.row

-- whether it has besides a number of the outer interval in the outer slot
abbrev pub is_early_of_both : ℕ → Interval → ℕ → Interval → ℕ → SignedRow → Bool
is_early_of_both slot interval outer_slot outer n r =
    is_early slot interval n r && is_within outer_slot outer r.row

-- numbers never fall, each row has a number in the slot, and each finder has the first rows
pub record IsRanged (slot : ℕ) (rows : List SignedRow) (finders : List Finder) : Type 0 where
  pub numbered : AreNumbered 0 rows
  pub numbers : HaveNumbers slot rows
  pub covers : AreFinders finders rows
