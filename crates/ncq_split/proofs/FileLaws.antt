-- The rows that a file gets are those that its constant selects.
use Rattle.std.proofs.Common.{◌≡◌, ℕ, Bool, true, false, cond, nat_eq, nat_le, true≢false, List, [], ◌∷◌, ◌++◌, map, filter, Option, Some, None, refl, sym, ◌∙◌, ap}
use Rattle.std.specs.Prelude.{IsTrue}
use Rattle.std.specs.Option.{option_to_list}
use Rattle.std.specs.FinMap.{FinMap, get}
use Rattle.std.proofs.lemmas.Bool.{eqb-true, eq-eqb}
use Rattle.std.proofs.lemmas.List.{map-append}
use Rattle.std.proofs.lemmas.List.Elements.{filter-append}
use Rattle.ncq_base.specs.Atoms.{atom_cmp, same_atom}
use Rattle.ncq_base.specs.Intervals.{in_interval}
use Rattle.ncq_base.specs.declared.atom.Atom.{Atom}
use Rattle.ncq_base.specs.declared.atom.FileId.{FileId}
use Rattle.ncq_base.specs.declared.interval.Interval.{Interval}
use Rattle.ncq_row.specs.Values.{atom_at}
use Rattle.ncq_consttab.specs.Ranges.{holders}
use Rattle.ncq_midfile.specs.declared.signed.SignedRow.{SignedRow}
use Rattle.ncq_midfile.proofs.SameAtoms.{same_is}
use Rattle.ncq_split.specs.declared.parcel.Parcel.{Parcel}
use Rattle.ncq_split.specs.Splits.{for_file, row_parcels, parcels_of, files_equal, files_holding, put_by_number, by_number, rows_for, intervals_of}
use Rattle.ncq_split.proofs.ByNumber.{file_is}

module _ (file : FileId) where
  abbrev is_file : FileId → Bool
  is_file other = nat_eq other.0 file.0

  rows_for-append : (ps qs : List Parcel) → rows_for file (ps ++ qs) ≡ rows_for file ps ++ rows_for file qs
  rows_for-append ps qs =
      ap (map (λ (p : Parcel). p.row)) (filter-append (λ (p : Parcel). is_file p.file) ps qs)
      ∙ map-append (λ (p : Parcel). p.row) (filter (λ (p : Parcel). is_file p.file) ps) (filter (λ (p : Parcel). is_file p.file) qs)

  -- of one row, once for each time that the file is among its files
  rows_found : (r : SignedRow) (files : List FileId) → rows_for file (map (for_file r) files) ≡ map (λ _. r) (filter is_file files)
  rows_found r [] = refl
  rows_found r (f ∷ files) =
      elim (is_file f) as (λ b. map (λ (p : Parcel). p.row) (cond b (for_file r f ∷ filter (λ (p : Parcel). is_file p.file) (map (for_file r) files)) (filter (λ (p : Parcel). is_file p.file) (map (for_file r) files)))
      ≡ map (λ _. r) (cond b (f ∷ filter is_file files) (filter is_file files))) [
        | true ↦ ap (λ rows. r ∷ rows) (rows_found r files)
        | false ↦ rows_found r files
      ]

  kept : (b : Bool) (r : SignedRow) (rest : List SignedRow) → cond b (r ∷ []) [] ++ rest ≡ cond b (r ∷ rest) rest
  kept true r rest = refl
  kept false r rest = refl

  one_kept : (b : Bool) (f : FileId) (r : SignedRow) → map (λ _. r) (cond b (f ∷ []) []) ≡ cond b (r ∷ []) []
  one_kept true f r = refl
  one_kept false f r = refl

  -- where each row goes to the file exactly if its atom passes the test
  all_rows : (files : Atom → List FileId) (test : Atom → Bool) → ((atom : Atom) (r : SignedRow) → map (λ _. r) (filter is_file (files atom)) ≡ cond (test atom) (r ∷ []) [])
      → (slot : ℕ) (rows : List SignedRow) → rows_for file (parcels_of files slot rows) ≡ filter (λ (r : SignedRow). test (atom_at r.row slot)) rows
  all_rows files test each slot [] = refl
  all_rows files test each slot (r ∷ rows) =
      let atom = atom_at r.row slot in
      rows_for-append (row_parcels files slot r) (parcels_of files slot rows)
      ∙ (λ i. (rows_found r (files atom) ∙ each atom r) i ++ all_rows files test each slot rows i)
      ∙ kept (test atom) r (filter (λ (r : SignedRow). test (atom_at r.row slot)) rows)

-- constants

some_is : (f g : FileId) → ◌≡◌ {A = Option FileId} (Some f) (Some g) → f ≡ g
some_is f g e = cc

none_is : (f : FileId) → ◌≡◌ {A = Option FileId} None (Some f) → ⊥
none_is f e = cc

itself : (f g : FileId) → f ≡ g → IsTrue (nat_eq f.0 g.0)
itself f g e = eq-eqb f.0 g.0 (ap (λ (h : FileId). h.0) e)

pub equal_rows : (table : FinMap atom_cmp FileId) (slot : ℕ) (rows : List SignedRow) (constant : Atom) (file : FileId) → get table constant ≡ Some file
    → ((other : Atom) → get table other ≡ Some file → other ≡ constant)
    → rows_for file (parcels_of (files_equal table) slot rows) ≡ filter (λ (r : SignedRow). same_atom (atom_at r.row slot) constant) rows
equal_rows table slot rows constant file there alone =
    all_rows file (files_equal table) (λ atom. same_atom atom constant) (λ atom r. by atom r (get table atom) refl) slot rows
  where
    by : (atom : Atom) (r : SignedRow) (o : Option FileId) → get table atom ≡ o → map (λ _. r) (filter (is_file file) (option_to_list o)) ≡ cond (same_atom atom constant) (r ∷ []) []
    by atom r None e =
        ap (λ b. cond b (r ∷ []) []) (same_is atom constant false (λ h. absurd (true≢false (sym h)), λ is. absurd (none_is file (sym e ∙ ap (get table) is ∙ there))))
    by atom r (Some f) e =
        one_kept file (is_file file f) f r
        ∙ ap (λ b. cond b (r ∷ []) []) (same_is atom constant (is_file file f) (
          λ h. alone atom (e ∙ ap Some (file_is f file (eqb-true f.0 file.0 h))),
          λ is. itself f file (some_is f file (sym e ∙ ap (get table) is ∙ there)),
        ))

-- intervals

module _ (file : FileId) where
  abbrev kept_files : List FileId → List FileId
  kept_files files = filter (is_file file) files

  -- two files are kept in either order
  put_past : (f other : FileId) (rest : List FileId) → cond (is_file file other) (other ∷ cond (is_file file f) (f ∷ rest) rest) (cond (is_file file f) (f ∷ rest) rest)
      ≡ cond (is_file file f) (f ∷ cond (is_file file other) (other ∷ rest) rest) (cond (is_file file other) (other ∷ rest) rest)
  put_past f other rest = by (is_file file f) (is_file file other) refl refl
    where
      by : (a b : Bool) → is_file file f ≡ a → is_file file other ≡ b → cond b (other ∷ cond a (f ∷ rest) rest) (cond a (f ∷ rest) rest) ≡ cond a (f ∷ cond b (other ∷ rest) rest) (cond b (other ∷ rest) rest)
      by true true p q =
          let one = file_is f file (eqb-true f.0 file.0 p) in
          let two = file_is other file (eqb-true other.0 file.0 q) in
          let same : other ≡ f = two ∙ sym one in
          λ i. same i ∷ sym same i ∷ rest
      by true false p q = refl
      by false true p q = refl
      by false false p q = refl

  kept_put : (f : FileId) (files : List FileId) → kept_files (put_by_number f files) ≡ kept_files (f ∷ files)
  kept_put f [] = refl
  kept_put f (other ∷ files) =
      elim (nat_le f.0 other.0) as (λ b. kept_files (cond b (f ∷ other ∷ files) (other ∷ put_by_number f files)) ≡ kept_files (f ∷ other ∷ files)) [
        | true ↦ refl
        | false ↦ ap (λ rest. cond (is_file file other) (other ∷ rest) rest) (kept_put f files) ∙ put_past f other (kept_files files)
      ]

  kept_by_number : (files : List FileId) → kept_files (by_number files) ≡ kept_files files
  kept_by_number [] = refl
  kept_by_number (f ∷ files) = kept_put f (by_number files) ∙ ap (λ rest. cond (is_file file f) (f ∷ rest) rest) (kept_by_number files)

  -- what one interval more adds, where it holds the atom and is the file's
  one_more : (atom : Atom) (entry : Interval × FileId) (held own : List (Interval × FileId)) (a b : Bool) → in_interval entry.0 atom ≡ a → is_file file entry.1 ≡ b
      → kept_files (map (λ (e : Interval × FileId). e.1) held) ≡ holders atom own
      → kept_files (map (λ (e : Interval × FileId). e.1) (cond a (entry ∷ held) held)) ≡ holders atom (cond b (entry ∷ own) own)
  one_more atom entry held own true true p q e =
      ap (λ b. cond b (entry.1 ∷ kept_files (map (λ (e : Interval × FileId). e.1) held)) (kept_files (map (λ (e : Interval × FileId). e.1) held))) q
      ∙ ap (λ files. entry.1 ∷ files) e
      ∙ ap (λ b. map (λ (e : Interval × FileId). e.1) (cond b (entry ∷ filter (λ (e : Interval × FileId). in_interval e.0 atom) own) (filter (λ (e : Interval × FileId). in_interval e.0 atom) own))) (sym p)
  one_more atom entry held own true false p q e =
      ap (λ b. cond b (entry.1 ∷ kept_files (map (λ (e : Interval × FileId). e.1) held)) (kept_files (map (λ (e : Interval × FileId). e.1) held))) q ∙ e
  one_more atom entry held own false true p q e =
      e ∙ ap (λ b. map (λ (e : Interval × FileId). e.1) (cond b (entry ∷ filter (λ (e : Interval × FileId). in_interval e.0 atom) own) (filter (λ (e : Interval × FileId). in_interval e.0 atom) own))) (sym p)
  one_more atom entry held own false false p q e = e

  -- the file is among those that hold the atom as often as its intervals hold it
  kept_holders : (atom : Atom) (table : List (Interval × FileId)) → kept_files (holders atom table) ≡ holders atom (intervals_of file table)
  kept_holders atom [] = refl
  kept_holders atom (entry ∷ table) =
      one_more atom entry (filter (λ (e : Interval × FileId). in_interval e.0 atom) table) (intervals_of file table) (in_interval entry.0 atom) (is_file file entry.1) refl refl (kept_holders atom table)

pub range_rows : (table : List (Interval × FileId)) (slot : ℕ) (rows : List SignedRow) (interval : Interval) (file : FileId) → intervals_of file table ≡ (interval, file) ∷ []
    → rows_for file (parcels_of (files_holding table) slot rows) ≡ filter (λ (r : SignedRow). in_interval interval (atom_at r.row slot)) rows
range_rows table slot rows interval file alone =
    all_rows file (files_holding table) (in_interval interval) (λ atom r.
    ap (map (λ _. r)) (kept_by_number file (holders atom table) ∙ kept_holders file atom table ∙ ap (holders atom) alone)
    ∙ one_held (in_interval interval atom) r) slot rows
  where
    one_held : (b : Bool) (r : SignedRow) → map (λ _. r) (map (λ (e : Interval × FileId). e.1) (cond b ((interval, file) ∷ []) [])) ≡ cond b (r ∷ []) []
    one_held true r = refl
    one_held false r = refl
