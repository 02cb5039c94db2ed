-- The parcels that a split makes of signed rows.
use Rattle.std.specs.Prelude.{ℕ, if◌then◌else◌, nat_eq, nat_le, List, [], ◌∷◌, map, filter}
use Rattle.std.specs.List.{flat_map}
use Rattle.std.specs.Option.{option_to_list}
use Rattle.std.specs.FinMap.{FinMap, get}
use Rattle.ncq_base.specs.declared.atom.Atom.{Atom}
use Rattle.ncq_base.specs.declared.atom.FileId.{FileId}
use Rattle.ncq_base.specs.declared.interval.Interval.{Interval}
use Rattle.ncq_base.specs.Atoms.{atom_cmp}
use Rattle.ncq_row.specs.Values.{atom_at}
use Rattle.ncq_consttab.specs.Ranges.{holders}
use Rattle.ncq_midfile.specs.declared.signed.SignedRow.{SignedRow}
use Rattle.ncq_split.specs.declared.parcel.Parcel.{Parcel}

-- the signed row for the file
abbrev pub for_file : SignedRow → FileId → Parcel
for_file signed file = record { file = file; row = signed }

-- a parcel of the row for each of the files of its atom in the slot
abbrev pub row_parcels : (Atom → List FileId) → ℕ → SignedRow → List Parcel
row_parcels files slot signed = map (for_file signed) (files (atom_at signed.row slot))

-- the parcels of each row, in the rows' order
abbrev pub parcels_of : (Atom → List FileId) → ℕ → List SignedRow → List Parcel
parcels_of files slot rows = flat_map (row_parcels files slot) rows

-- the file of the constant that the atom is, where there is one
abbrev pub files_equal : FinMap atom_cmp FileId → Atom → List FileId
files_equal table atom = option_to_list (get table atom)

-- the files with one more: before the first that has no lower number
abbrev pub put_by_number : FileId → List FileId → List FileId
put_by_number file [] = file ∷ []
put_by_number file (other ∷ files) =
    if nat_le file.0 other.0 then file ∷ other ∷ files else other ∷ put_by_number file files

-- the files by rising number
abbrev pub by_number : List FileId → List FileId
by_number [] = []
by_number (file ∷ files) = put_by_number file (by_number files)

-- the files of the intervals that hold the atom, by rising number
abbrev pub files_holding : List (Interval × FileId) → Atom → List FileId
files_holding table atom = by_number (holders atom table)

-- the signed rows of the parcels for the file
abbrev pub rows_for : FileId → List Parcel → List SignedRow
rows_for file parcels = map (λ p. p.row) (filter (λ p. nat_eq p.file.0 file.0) parcels)

-- the intervals of the file
abbrev pub intervals_of : FileId → List (Interval × FileId) → List (Interval × FileId)
intervals_of file table = filter (λ entry. nat_eq entry.1.0 file.0) table
