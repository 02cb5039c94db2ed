-- What is passed on of a file's rows to what selects of them.
use Rattle.std.specs.Prelude.{◌≡◌, ℕ, ◌<◌, Bool, cond, List, [], map, filter, length, nat_eq}
use Rattle.std.specs.List.{flat_map, IsDistinct, AllByRecursion}
use Rattle.std.specs.Map.{keys_of}
use Rattle.std.specs.FinMap.{FinMap, len}
use Rattle.ncq_base.specs.Atoms.{atom_cmp}
use Rattle.ncq_base.specs.declared.atom.FileId.{FileId}
use Rattle.ncq_base.specs.declared.interval.Interval.{Interval}
use Rattle.ncq_consttab.specs.Ranges.{is_interval}
use Rattle.ncq_base.specs.Counts.{total_by}
use Rattle.ncq_midfile.specs.Views.{is_held, of_rows}
use Rattle.ncq_midfile.specs.declared.signed.SignedRow.{SignedRow}
use Rattle.ncq_readers.specs.declared.ranges.HeldRows.{HeldRows}
use Rattle.ncq_split.specs.declared.parcel.Parcel.{Parcel}
use Rattle.ncq_split.specs.Splits.{parcels_of, files_equal}
use Rattle.ncq_readers.specs.Readings.{Reading, IsSelection, HaveSlot}
use Rattle.ncq_readers.specs.ReaderTables.{ReaderTables, IsReader}

-- no slot stands twice, and no interval of a slot; no slot is without a file
pub record AreTables (tables : ReaderTables) : Type 0 where
  pub equal_slots : IsDistinct nat_eq (keys_of tables.equals)
  pub range_slots : IsDistinct nat_eq (keys_of tables.ranges)
  pub intervals : AllByRecursion (λ table. IsDistinct is_interval (keys_of table.1)) tables.ranges
  pub equals_some : AllByRecursion (λ table. 0 < len table.1) tables.equals
  pub ranges_some : AllByRecursion (λ table. 0 < length table.1) tables.ranges

-- no file reads in two ways
abbrev pub ReadOnce : ReaderTables → Type 0
ReadOnce tables =
    (one other : Reading) (number : ℕ) → IsReader tables one number → IsReader tables other number
    → one ≡ other

-- the parcels of an equality group, and of all
abbrev pub equal_parcels : List SignedRow → ℕ × FinMap atom_cmp FileId → List Parcel
equal_parcels rows table = parcels_of (files_equal table.1) table.0 rows

abbrev pub parcels_in : ReaderTables → List SignedRow → List Parcel
parcels_in tables rows = flat_map (equal_parcels rows) tables.equals

-- the rows that some interval of a range group holds, and so of all groups
abbrev pub held_by : List SignedRow → ℕ × List (Interval × FileId) → HeldRows
held_by rows table =
    record { slot = table.0; rows = of_rows (is_held table.0 (keys_of table.1)) rows }

abbrev pub held_in : ReaderTables → List SignedRow → List HeldRows
held_in tables rows = map (held_by rows) tables.ranges

-- those that are held at the slot
abbrev pub held_at : ℕ → List HeldRows → List SignedRow
held_at slot held = flat_map (λ h. cond (nat_eq h.slot slot) h.rows []) held

-- how many rows are held
abbrev pub size_of : List HeldRows → ℕ
size_of held = total_by (λ h. length h.rows) held

-- the signed rows of the parcels for the file of this number
abbrev pub rows_to : ℕ → List Parcel → List SignedRow
rows_to number parcels = map (λ p. p.row) (filter (λ p. nat_eq p.file.0 number) parcels)

-- the rows have each slot of which something selects
abbrev pub HaveSlots : ReaderTables → List SignedRow → Type 0
HaveSlots tables rows =
    (reading : Reading) (number slot : ℕ) (test : SignedRow → Bool)
    → IsReader tables reading number → IsSelection reading slot test → HaveSlot slot rows
