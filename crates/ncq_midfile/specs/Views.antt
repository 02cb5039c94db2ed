-- Range files and views, as callers see them.
use Rattle.std.specs.Prelude.{◌≡◌, ℕ, ◌<◌, ◌≤◌, Bool, true, false, not, ◌&&◌, ◌||◌, List, [], ◌++◌}
use Rattle.std.specs.Prelude.{filter, length}
use Rattle.std.specs.Prelude.{nat_lt, refl}
use Rattle.std.specs.Coded.{Coded, code_by, coded×, coded_ℕ, coded_list}
use Rattle.std.specs.List.{list_any, AllByRecursion}
use Rattle.ncq_base.specs.Intervals.{in_interval}
use Rattle.ncq_base.specs.declared.atom.Atom.{Atom}
use Rattle.ncq_base.specs.declared.atom.Atom.TheVariants.{Num, Text}
use Rattle.ncq_base.specs.declared.interval.Interval.{Interval}
use Rattle.ncq_row.specs.Values.{atom_at}
use Rattle.ncq_midfile.specs.Content.{Row, IsContent}
use Rattle.ncq_midfile.specs.Files.{FileState}
use Rattle.ncq_midfile.specs.declared.signed.SignedRow.{SignedRow}
use Rattle.ncq_midfile.specs.contracts.signed.SignedRow.{the_row as signed_row}

-- the slot in which each row has a number, and the signed rows in order
pub record RangeState : Type 0 where
  pub slot : ℕ
  pub rows : List SignedRow

-- how a range file is written as a value
abbrev pub range_code : Coded RangeState
range_code =
    code_by (ℕ × List SignedRow) (coded× coded_ℕ (coded_list signed_row.coded))
    (λ f. (f.slot, f.rows)) (λ p. record { slot = p.0; rows = p.1 }) (λ _. refl)

-- whether the atom is a number
abbrev pub is_number : Atom → Bool
is_number (Num n) = true
is_number (Text text) = false

-- the row has the slot, and a number there
pub record HasNumber (slot : ℕ) (row : Row) : Type 0 where
  pub within : slot < length row
  pub number : is_number (atom_at row slot) ≡ true

-- whether the row has a number of the interval in the slot
abbrev pub is_within : ℕ → Interval → Row → Bool
is_within slot interval row = in_interval interval (atom_at row slot)

-- whether it has one of any of the intervals
abbrev pub is_held : ℕ → List Interval → Row → Bool
is_held slot intervals row =
    list_any (λ interval. in_interval interval (atom_at row slot)) intervals

-- whether the one interval has not the row, or some of the others has it
abbrev pub is_kept : ℕ → Interval → List Interval → Row → Bool
is_kept slot gone intervals row = not (is_within slot gone row) || is_held slot intervals row

-- those of the signed rows whose rows pass the test
abbrev pub of_rows : (Row → Bool) → List SignedRow → List SignedRow
of_rows test rows = filter (λ r. test r.row) rows

-- how many of the rows went out above the number
abbrev pub losses_above : ℕ → List SignedRow → ℕ
losses_above n rows = length (filter (λ r. nat_lt n r.number && not r.plus) rows)

-- whether it has none of any of them
abbrev pub is_unheld : ℕ → List Interval → Row → Bool
is_unheld slot intervals row = not (is_held slot intervals row)

-- whether the row is of the new interval and of no standing one
abbrev pub is_missing : ℕ → List Interval → Interval → Row → Bool
is_missing slot standing interval row = is_within slot interval row && is_unheld slot standing row

-- each row of the list passes the test, and with other rows, none of which does, the list has the
-- content at n
abbrev pub IsContentOf : (Row → Bool) → ℕ → List SignedRow → List Row → Type 0
IsContentOf test n rows list =
    (filter test list ≡ list)
    × ((rest : List Row) × (filter test rest ≡ []) × IsContent n rows (list ++ rest))

-- each of the rows is of one of the intervals
abbrev pub AreHeld : ℕ → List Interval → List SignedRow → Type 0
AreHeld slot intervals rows = AllByRecursion (λ r. is_held slot intervals r.row ≡ true) rows

-- at n each interval has of the rows the content that it has of the list
abbrev pub HaveContents : ℕ → ℕ → List Interval → List SignedRow → List Row → Type 0
HaveContents n slot intervals rows list =
    AllByRecursion (λ interval. IsContent n (of_rows (is_within slot interval) rows)
    (filter (is_within slot interval) list)) intervals

-- each interval has of the new rows what it had of the old ones
abbrev pub HaveTheSame : ℕ → List Interval → List SignedRow → List SignedRow → Type 0
HaveTheSame slot intervals old new =
    AllByRecursion (λ interval. of_rows (is_within slot interval) new
    ≡ of_rows (is_within slot interval) old) intervals

-- each interval has of the new rows what it had of the old ones, and behind it what it has of the
-- news
abbrev pub GainEach : ℕ → List Interval → List SignedRow → List SignedRow → List SignedRow → Type 0
GainEach slot intervals old news new =
    AllByRecursion (λ interval. of_rows (is_within slot interval) new
    ≡ of_rows (is_within slot interval) old ++ of_rows (is_within slot interval) news) intervals

-- the number is the least that is below neither the base nor the number of a row
pub record IsLast (file : FileState) (n : ℕ) : Type 0 where
  pub base : file.base ≤ n
  pub rows : AllByRecursion (λ r. r.number ≤ n) file.rows
  pub least : (m : ℕ) → file.base ≤ m → AllByRecursion (λ r. r.number ≤ m) file.rows → n ≤ m
