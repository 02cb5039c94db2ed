-- What reads a file, as callers see it.
use Rattle.std.specs.Prelude.{◌≡◌, ◌⊎◌, ℕ, Bool, true, false, List, nat_eq, Option, Some, refl}
use Rattle.std.specs.Coded.{Coded, code_by, coded×, coded_ℕ, coded_list}
use Rattle.std.specs.FinMap.{FinMap, get, code}
use Rattle.std.specs.List.{list_any}
use Rattle.std.specs.Map.{lookup}
use Rattle.std.specs.Option.{option_map, option_and_then}
use Rattle.ncq_base.specs.Atoms.{atom_cmp}
use Rattle.ncq_base.specs.declared.atom.Atom.{Atom}
use Rattle.ncq_base.specs.declared.atom.FileId.{FileId}
use Rattle.ncq_base.specs.declared.interval.Interval.{Interval}
use Rattle.ncq_base.specs.contracts.atom.Atom.{the_row as atom_row}
use Rattle.ncq_base.specs.contracts.atom.FileId.{the_row as file_row}
use Rattle.ncq_base.specs.contracts.interval.Interval.{the_row as interval_row}
use Rattle.ncq_consttab.specs.Ranges.{is_interval}
use Rattle.ncq_readers.specs.Readings.{Reading}
use Rattle.ncq_readers.specs.Readings.Reading.{equal, range, joined}

-- the files of constants by their slot, those of intervals by their slot, and the joins
pub record ReaderTables : Type 0 where
  pub equals : List (ℕ × FinMap atom_cmp FileId)
  pub ranges : List (ℕ × List (Interval × FileId))
  pub joins : List ℕ

-- how these are written as a value
abbrev pub equals_code : Coded (List (ℕ × FinMap atom_cmp FileId))
equals_code = coded_list (coded× coded_ℕ (code atom_row.coded file_row.coded))

abbrev pub ranges_code : Coded (List (ℕ × List (Interval × FileId)))
ranges_code = coded_list (coded× coded_ℕ (coded_list (coded× interval_row.coded file_row.coded)))

abbrev pub tables_code : Coded ReaderTables
tables_code =
    code_by (_ × (_ × List ℕ)) (coded× equals_code (coded× ranges_code (coded_list coded_ℕ)))
    (λ t. (t.equals, (t.ranges, t.joins)))
    (λ p. record { equals = p.0; ranges = p.1.0; joins = p.1.1 }) (λ _. refl)

-- the file of the constant in the slot
abbrev pub equal_at : ReaderTables → ℕ → Atom → Option FileId
equal_at tables slot constant =
    option_and_then (λ table. get table constant) (lookup (nat_eq slot) tables.equals)

-- the file of the interval in the slot
abbrev pub range_at : ReaderTables → ℕ → Interval → Option FileId
range_at tables slot interval =
    option_and_then (λ table. lookup (is_interval interval) table)
    (lookup (nat_eq slot) tables.ranges)

-- the file of this number reads so
abbrev pub IsReader : ReaderTables → Reading → ℕ → Type 0
IsReader tables (equal slot constant) number =
    option_map (λ file. file.0) (equal_at tables slot constant) ≡ Some number
IsReader tables (range slot interval) number =
    option_map (λ file. file.0) (range_at tables slot interval) ≡ Some number
IsReader tables joined number = list_any (nat_eq number) tables.joins ≡ true

-- nothing reads
abbrev pub IsUnread : ReaderTables → Type 0
IsUnread tables = (reading : Reading) (number : ℕ) → IsReader tables reading number → ⊥

-- something reads
abbrev pub IsRead : ReaderTables → Type 0
IsRead tables = (reading : Reading) × (number : ℕ) × IsReader tables reading number

-- what is told of whether nothing reads
abbrev pub TellsUnread : ReaderTables → Bool → Type 0
TellsUnread tables true = IsUnread tables
TellsUnread tables false = IsRead tables

-- the file reads so from now on, and all else is as before
pub record Gains (old : ReaderTables) (reading : Reading) (number : ℕ) (new : ReaderTables)
    : Type 0 where
  pub here : IsReader new reading number
  pub kept : (other : Reading) (n : ℕ) → IsReader old other n → IsReader new other n
  pub only : (other : Reading) (n : ℕ) → IsReader new other n
      → IsReader old other n ⊎ ((other ≡ reading) × (n ≡ number))

-- the file reads so no more, and all else is as before
pub record Loses (old : ReaderTables) (reading : Reading) (number : ℕ) (new : ReaderTables)
    : Type 0 where
  pub gone : IsReader new reading number → ⊥
  pub kept : (other : Reading) (n : ℕ) → IsReader old other n
      → IsReader new other n ⊎ ((other ≡ reading) × (n ≡ number))
  pub only : (other : Reading) (n : ℕ) → IsReader new other n → IsReader old other n
