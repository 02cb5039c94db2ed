-- What is passed on of rows to what selects of them.
use Rattle.std.proofs.Common.{◌≡◌, ℕ, ◌<◌, ◌||◌, ◌++◌, length, Bool, true, false, cond, nat_eq, nat_le, true≢false, List, [], ◌∷◌, map, filter, refl, sym, ◌∙◌, ap, subst, append-nil, arith}
use Rattle.std.specs.Prelude.{Option, Some, None}
use Rattle.std.specs.FinMap.{FinMap, get, find}
use Rattle.std.specs.List.{flat_map, list_any, IsDistinct, AllByRecursion}
use Rattle.std.specs.Map.{lookup, keys_of}
use Rattle.std.specs.Option.{option_map, option_and_then, option_to_list}
use Rattle.std.proofs.lemmas.Bool.{eqb-true, eq-eqb}
use Rattle.std.proofs.lemmas.List.{map-append}
use Rattle.std.proofs.lemmas.List.Elements.{filter-append}
use Rattle.std.proofs.lemmas.Map.Keys.{IsDistinct-tail}
use Rattle.ncq_base.specs.Atoms.{atom_cmp}
use Rattle.ncq_base.specs.Intervals.{in_interval}
use Rattle.ncq_base.specs.declared.atom.Atom.{Atom}
use Rattle.ncq_base.specs.declared.atom.FileId.{FileId}
use Rattle.ncq_base.specs.declared.interval.Interval.{Interval}
use Rattle.ncq_row.specs.Values.{atom_at}
use Rattle.ncq_consttab.specs.Ranges.{is_interval}
use Rattle.ncq_consttab.proofs.Intervals.{interval_is}
use Rattle.ncq_midfile.specs.Content.{Row}
use Rattle.ncq_midfile.specs.Views.{is_within, is_held, of_rows}
use Rattle.ncq_midfile.specs.declared.signed.SignedRow.{SignedRow}
use Rattle.ncq_split.specs.declared.parcel.Parcel.{Parcel}
use Rattle.ncq_split.specs.Splits.{for_file, row_parcels, parcels_of, files_equal}
use Rattle.ncq_split.proofs.FileLaws.{equal_rows}
use Rattle.ncq_readers.specs.Readings.Reading.{equal, range}
use Rattle.ncq_readers.specs.ReaderTables.{ReaderTables, IsReader}
use Rattle.ncq_readers.specs.Passed.{AreTables, ReadOnce, equal_parcels, parcels_in, held_by, held_in, held_at, rows_to}
use Rattle.ncq_readers.specs.Tables.{found_at, file_of}
use Rattle.ncq_readers.proofs.TableLaws.{reads, tail_apart, first_found, later_found, found_has, each_has, slot_is, slot_itself}
use Rattle.ncq_readers.proofs.KeyLaws.{interval_itself}

abbrev EqualTable : Type 0
EqualTable = FinMap atom_cmp FileId

abbrev RangeTable : Type 0
RangeTable = List (Interval × FileId)

-- of all groups, those of one

module _ {T X : Type 0} (g : ℕ × T → List X) where
  each_empty : (es : List (ℕ × T)) → AllByRecursion (λ e. g e ≡ []) es → flat_map g es ≡ []
  each_empty [] h = refl
  each_empty (e ∷ es) h = λ i. h.0 i ++ each_empty es h.1 i

  pub no_group : (es : List (ℕ × T)) → IsDistinct nat_eq (keys_of es) → ((s : ℕ) (t : T) → lookup (nat_eq s) es ≡ Some t → g (s, t) ≡ []) → flat_map g es ≡ []
  no_group es apart h = each_empty es (each_has nat_eq slot_is slot_itself (λ s t. g (s, t) ≡ []) es apart h)

  pub one_group : (es : List (ℕ × T)) (slot : ℕ) (table : T) → IsDistinct nat_eq (keys_of es) → lookup (nat_eq slot) es ≡ Some table
      → ((s : ℕ) (t : T) → lookup (nat_eq s) es ≡ Some t → (s ≡ slot → ⊥) → g (s, t) ≡ []) → flat_map g es ≡ g (slot, table)
  one_group [] slot table apart found h = cc
  one_group (e ∷ es) slot table apart found h =
      let rest = IsDistinct-tail nat_eq e.0 (keys_of es) apart in
      elim (nat_eq slot e.0) as (λ b. nat_eq slot e.0 ≡ b → cond b (Some e.1) (lookup (nat_eq slot) es) ≡ Some table → g e ++ flat_map g es ≡ g (slot, table)) [
        | true ↦ λ q f.
            let is : e.1 ≡ table = cc in
            let key : slot ≡ e.0 = eqb-true slot e.0 q in
            let none = no_group es rest (λ s t behind.
            h s t (later_found nat_eq slot_is slot_itself e es s t apart behind)
            (λ same. absurd (true≢false (sym (slot_itself e.0) ∙ ap (λ n. nat_eq n e.0) (sym (same ∙ key)) ∙ tail_apart nat_eq slot_is slot_itself e es s t apart behind)))) in
            (λ i. g (sym key i, is i) ++ none i) ∙ append-nil (g (slot, table))
        | false ↦ λ q f.
            let other = h e.0 e.1 (first_found nat_eq slot_is slot_itself e es) (λ same. absurd (true≢false (sym (slot_itself slot) ∙ ap (nat_eq slot) (sym same) ∙ q))) in
            ap (λ xs. xs ++ flat_map g es) other ∙ one_group es slot table rest f (λ s t behind. h s t (later_found nat_eq slot_is slot_itself e es s t apart behind))
      ] refl found

-- rows for a number

rows_to-append : (number : ℕ) (ps qs : List Parcel) → rows_to number (ps ++ qs) ≡ rows_to number ps ++ rows_to number qs
rows_to-append number ps qs =
    ap (map (λ (p : Parcel). p.row)) (filter-append (λ (p : Parcel). nat_eq p.file.0 number) ps qs)
    ∙ map-append (λ (p : Parcel). p.row) (filter (λ (p : Parcel). nat_eq p.file.0 number) ps) (filter (λ (p : Parcel). nat_eq p.file.0 number) qs)

rows_to-groups : {X : Type 0} (number : ℕ) (g : X → List Parcel) (xs : List X) → rows_to number (flat_map g xs) ≡ flat_map (λ x. rows_to number (g x)) xs
rows_to-groups number g [] = refl
rows_to-groups number g (x ∷ xs) = rows_to-append number (g x) (flat_map g xs) ∙ ap (λ rows. rows_to number (g x) ++ rows) (rows_to-groups number g xs)

-- no file of the list has the number
abbrev Lack : ℕ → List FileId → Type 0
Lack number files = AllByRecursion (λ (file : FileId). nat_eq file.0 number ≡ false) files

module _ (number : ℕ) where
  none_for : (r : SignedRow) (files : List FileId) → Lack number files → rows_to number (map (for_file r) files) ≡ []
  none_for r [] h = refl
  none_for r (f ∷ files) h =
      (λ i. map (λ (p : Parcel). p.row) (cond (h.0 i) (for_file r f ∷ filter (λ (p : Parcel). nat_eq p.file.0 number) (map (for_file r) files)) (filter (λ (p : Parcel). nat_eq p.file.0 number) (map (for_file r) files))))
      ∙ none_for r files h.1

  -- where no atom leads to the number, no row does
  none_of : (files : Atom → List FileId) → ((atom : Atom) → Lack number (files atom)) → (slot : ℕ) (rows : List SignedRow) → rows_to number (parcels_of files slot rows) ≡ []
  none_of files h slot [] = refl
  none_of files h slot (r ∷ rows) =
      rows_to-append number (row_parcels files slot r) (parcels_of files slot rows)
      ∙ (λ i. none_for r (files (atom_at r.row slot)) (h (atom_at r.row slot)) i ++ none_of files h slot rows i)

  lacks : (file : FileId) → (file.0 ≡ number → ⊥) → nat_eq file.0 number ≡ false
  lacks file h = by (nat_eq file.0 number) refl
    where
      by : (b : Bool) → nat_eq file.0 number ≡ b → b ≡ false
      by true q = absurd (h (eqb-true file.0 number q))
      by false q = refl

  -- no constant of the table has a file of the number
  abbrev NoConstant : EqualTable → Type 0
  NoConstant table = (c : Atom) → reads (get table c) number → ⊥

  no_constant_lacks : (table : EqualTable) → NoConstant table → (atom : Atom) → Lack number (files_equal table atom)
  no_constant_lacks table h atom = by (get table atom) (h atom)
    where
      by : (o : Option FileId) → (reads o number → ⊥) → Lack number (option_to_list o)
      by None none = tt
      by (Some file) none = (lacks file (λ e. none (ap Some e)), tt)

-- what a look-up in a group tells of the tables

pub found_in : {T K : Type 0} (find : T → K → Option FileId) (es : List (ℕ × T)) (slot : ℕ) (table : T) (k : K) → lookup (nat_eq slot) es ≡ Some table → found_at find es slot k ≡ find table k
found_in find es slot table k found = ap (option_and_then (λ t. find t k)) found

-- a file that is found stands in a table
table_of : {T K : Type 0} (find : T → K → Option FileId) (es : List (ℕ × T)) (slot : ℕ) (k : K) (number : ℕ) → reads (found_at find es slot k) number
    → (table : T) × (file : FileId) × (lookup (nat_eq slot) es ≡ Some table) × (find table k ≡ Some file) × (file.0 ≡ number)
table_of {T} {K} find es slot k number h = by (lookup (nat_eq slot) es) refl h
  where
    inner : (table : T) (o : Option FileId) → lookup (nat_eq slot) es ≡ Some table → find table k ≡ o → reads o number
        → (table : T) × (file : FileId) × (lookup (nat_eq slot) es ≡ Some table) × (find table k ≡ Some file) × (file.0 ≡ number)
    inner table None found e h = cc
    inner table (Some file) found e h = let is : file.0 ≡ number = cc in (table, file, found, e, is)

    by : (o : Option T) → lookup (nat_eq slot) es ≡ o → reads (option_and_then (λ t. find t k) o) number
        → (table : T) × (file : FileId) × (lookup (nat_eq slot) es ≡ Some table) × (find table k ≡ Some file) × (file.0 ≡ number)
    by None found h = cc
    by (Some table) found h = inner table (find table k) found refl h

module _ (tables : ReaderTables) (rows : List SignedRow) (number : ℕ) (are : AreTables tables) where
  abbrev equals_to : ℕ × EqualTable → List SignedRow
  equals_to table = rows_to number (equal_parcels rows table)

  passed : (es : List SignedRow) → flat_map equals_to tables.equals ≡ es → rows_to number (parcels_in tables rows) ≡ es
  passed es p = rows_to-groups number (equal_parcels rows) tables.equals ∙ p

  equal_reader : (s : ℕ) (t : EqualTable) (c : Atom) → lookup (nat_eq s) tables.equals ≡ Some t → reads (get t c) number → IsReader tables (equal s c) number
  equal_reader s t c found h = subst (λ o. reads o number) (sym (found_in get tables.equals s t c found)) h

  no_equal : (s : ℕ) (t : EqualTable) → lookup (nat_eq s) tables.equals ≡ Some t → ((c : Atom) → IsReader tables (equal s c) number → ⊥) → equals_to (s, t) ≡ []
  no_equal s t found h = none_of number (files_equal t) (no_constant_lacks number t (λ c at. h c (equal_reader s t c found at))) s rows

  pub others_get_none : ((slot : ℕ) (constant : Atom) → IsReader tables (equal slot constant) number → ⊥) → rows_to number (parcels_in tables rows) ≡ []
  others_get_none h = passed [] (no_group equals_to tables.equals are.equal_slots (λ s t found. no_equal s t found (λ c at. h s c at)))

module _ (tables : ReaderTables) (rows : List SignedRow) (number : ℕ) (are : AreTables tables) (once : ReadOnce tables) where
  same_slot : (s t : ℕ) (c d : Atom) → equal s c ≡ equal t d → s ≡ t
  same_slot s t c d e = cc

  same_constant : (s t : ℕ) (c d : Atom) → equal s c ≡ equal t d → c ≡ d
  same_constant s t c d e = cc

  pub equal_gets : (slot : ℕ) (constant : Atom) → IsReader tables (equal slot constant) number
      → rows_to number (parcels_in tables rows) ≡ filter (λ (r : SignedRow). Rattle.ncq_base.specs.Atoms.same_atom (atom_at r.row slot) constant) rows
  equal_gets slot constant reader =
      let at = table_of get tables.equals slot constant number reader in
      let table = at.0 in
      let file = at.1 in
      let its = equal_rows table slot rows constant file at.3 (λ other found.
      same_constant slot slot other constant
      (once (equal slot other) (equal slot constant) number (equal_reader tables rows number are slot table other at.2 (ap (option_map (λ (f : FileId). f.0)) found ∙ ap Some at.4)) reader)) in
      let here : equals_to tables rows number are (slot, table) ≡ _ = ap (λ n. rows_to n (equal_parcels rows (slot, table))) (sym at.4) ∙ its in
      passed tables rows number are _
      (one_group (equals_to tables rows number are) tables.equals slot table are.equal_slots at.2 (λ s t found other.
      no_equal tables rows number are s t found (λ c h. other (same_slot s slot c constant (once (equal s c) (equal slot constant) number h reader)))) ∙ here)

-- what is held at a slot

module _ (tables : ReaderTables) (rows : List SignedRow) (slot : ℕ) (are : AreTables tables) where
  abbrev held_of : ℕ × RangeTable → List SignedRow
  held_of table = cond (nat_eq table.0 slot) (held_by rows table).rows []

  held_each : (es : List (ℕ × RangeTable)) → held_at slot (map (held_by rows) es) ≡ flat_map held_of es
  held_each [] = refl
  held_each (e ∷ es) = ap (λ xs. held_of e ++ xs) (held_each es)

  elsewhere : (s : ℕ) (t : RangeTable) → (s ≡ slot → ⊥) → held_of (s, t) ≡ []
  elsewhere s t other = by (nat_eq s slot) refl
    where
      by : (b : Bool) → nat_eq s slot ≡ b → cond b (held_by rows (s, t)).rows [] ≡ []
      by true q = absurd (other (eqb-true s slot q))
      by false q = refl

  here_held : (t : RangeTable) → held_of (slot, t) ≡ of_rows (is_held slot (keys_of t)) rows
  here_held t = ap (λ b. cond b (held_by rows (slot, t)).rows []) (slot_itself slot)

  pub held_there : (t : RangeTable) → lookup (nat_eq slot) tables.ranges ≡ Some t → held_at slot (held_in tables rows) ≡ of_rows (is_held slot (keys_of t)) rows
  held_there t found = held_each tables.ranges ∙ one_group held_of tables.ranges slot t are.range_slots found (λ s u _ other. elsewhere s u other) ∙ here_held t

  -- an interval of the table holds what is within it
  within_held : (t : RangeTable) (interval : Interval) (file : FileId) (a : Atom) → file_of t interval ≡ Some file → in_interval interval a ≡ true
      → list_any (λ i. in_interval i a) (keys_of t) ≡ true
  within_held [] interval file a found h = cc
  within_held (e ∷ t) interval file a found h =
      elim (is_interval interval e.0) as (λ b. is_interval interval e.0 ≡ b → cond b (Some e.1) (file_of t interval) ≡ Some file → (in_interval e.0 a || list_any (λ i. in_interval i a) (keys_of t)) ≡ true) [
        | true ↦ λ q f. ap (λ b. b || list_any (λ i. in_interval i a) (keys_of t)) (ap (λ i. in_interval i a) (sym (interval_is interval e.0 q)) ∙ h)
        | false ↦ λ q f. ap (λ b. in_interval e.0 a || b) (within_held t interval file a f h) ∙ or_true (in_interval e.0 a)
      ] refl found
    where
      or_true : (b : Bool) → (b || true) ≡ true
      or_true true = refl
      or_true false = refl

  twice : (p q : Row → Bool) → ((r : Row) → p r ≡ true → q r ≡ true) → (rs : List SignedRow) → of_rows p (of_rows q rs) ≡ of_rows p rs
  twice p q h [] = refl
  twice p q h (r ∷ rs) =
      elim (q r.row) as (λ b. q r.row ≡ b → of_rows p (cond b (r ∷ of_rows q rs) (of_rows q rs)) ≡ cond (p r.row) (r ∷ of_rows p rs) (of_rows p rs)) [
        | true ↦ λ _. ap (λ xs. cond (p r.row) (r ∷ xs) xs) (twice p q h rs)
        | false ↦ λ e. twice p q h rs ∙ ap (λ b. cond b (r ∷ of_rows p rs) (of_rows p rs)) (sym (not_p e))
      ] refl
    where
      not_p : q r.row ≡ false → p r.row ≡ false
      not_p e = by (p r.row) refl
        where
          by : (b : Bool) → p r.row ≡ b → b ≡ false
          by true f = absurd (true≢false (sym (h r.row f) ∙ e))
          by false f = refl

  pub interval_gets : (interval : Interval) (number : ℕ) → IsReader tables (range slot interval) number → of_rows (is_within slot interval) (held_at slot (held_in tables rows)) ≡ of_rows (is_within slot interval) rows
  interval_gets interval number reader =
      let at = table_of file_of tables.ranges slot interval number reader in
      ap (of_rows (is_within slot interval)) (held_there at.0 at.2)
      ∙ twice (is_within slot interval) (is_held slot (keys_of at.0)) (λ r h. within_held at.0 interval at.1 (atom_at r slot) at.3 h) rows

  pub none_held : ((interval : Interval) (number : ℕ) → IsReader tables (range slot interval) number → ⊥) → held_at slot (held_in tables rows) ≡ []
  none_held h = held_each tables.ranges ∙ no_group held_of tables.ranges are.range_slots (λ s t found. by s t found (nat_eq s slot) refl)
    where
      first : (t : RangeTable) → lookup (nat_eq slot) tables.ranges ≡ Some t → 0 < length t → ⊥
      first [] found some = omega arith
      first (e ∷ t) found some =
          h e.0 e.1.0 (ap (option_map (λ (f : FileId). f.0)) (found_in file_of tables.ranges slot (e ∷ t) e.0 found ∙ first_found is_interval interval_is interval_itself e t))

      by : (s : ℕ) (t : RangeTable) → lookup (nat_eq s) tables.ranges ≡ Some t → (b : Bool) → nat_eq s slot ≡ b → cond b (held_by rows (s, t)).rows [] ≡ []
      by s t found true q =
          absurd (first t (ap (λ n. lookup (nat_eq n) tables.ranges) (sym (eqb-true s slot q)) ∙ found)
          (found_has nat_eq slot_is slot_itself (λ _ (t : RangeTable). 0 < length t) tables.ranges s t are.ranges_some found))
      by s t found false q = refl
