-- What holds of the tables of a file's readers, as a whole and by their parts.
use Rattle.std.proofs.Common.{◌≡◌, ℕ, ◌<◌, ◌||◌, Bool, true, false, cond, nat_eq, List, [], ◌∷◌, length, refl, sym, ◌∙◌, ap, subst, arith}
use Rattle.std.specs.Prelude.{Some, None, IsTrue, ◌↔◌, Result, Ok, Err, OnOk, OnErr}
use Rattle.std.specs.Ordering.{eq_by_cmp}
use Rattle.std.specs.FinMap.{FinMap, get, len, entries, find, get-entries, len-entries}
use Rattle.std.specs.List.{list_any, IsDistinct, AllByRecursion}
use Rattle.std.specs.Map.{lookup, keys_of}
use Rattle.std.specs.Option.{option_map}
use Rattle.ncq_base.specs.Atoms.{atom_cmp}
use Rattle.ncq_base.specs.declared.atom.Atom.{Atom}
use Rattle.ncq_base.specs.declared.atom.FileId.{FileId}
use Rattle.ncq_base.specs.declared.interval.Interval.{Interval}
use Rattle.ncq_consttab.specs.Ranges.{is_interval}
use Rattle.ncq_midfile.specs.declared.signed.SignedRow.{SignedRow}
use Rattle.ncq_readers.specs.Readings.{Reading, IsSelection, HaveSlot}
use Rattle.ncq_readers.specs.Readings.Reading.{equal, range, joined}
use Rattle.ncq_readers.specs.ReaderTables.{ReaderTables, IsReader, IsRead, IsUnread, TellsUnread, Gains, Loses}
use Rattle.ncq_readers.specs.Passed.{AreTables, HaveSlots}
use Rattle.ncq_readers.specs.Tables.{AreGroups, IsEqualTable, IsRangeTable, Sets, file_of, found_at}
use Rattle.ncq_readers.proofs.TableLaws.{first_found, found_has, each_has, slot_is, slot_itself}
use Rattle.ncq_readers.proofs.KeyLaws.{constant_itself, interval_itself}
use Rattle.ncq_readers.proofs.GainLaws.{free_at, equal_gains, equal_loses, range_gains, range_loses, join_gains, join_loses}
use Rattle.ncq_readers.proofs.PassedLaws.{found_in}

abbrev EqualTable : Type 0
EqualTable = FinMap atom_cmp FileId

abbrev RangeTable : Type 0
RangeTable = List (Interval × FileId)

-- as a whole and by groups

module _ {A : Type 0} (P Q : A → Type 0) where
  each_both : (xs : List A) → AllByRecursion P xs → AllByRecursion Q xs → AllByRecursion (λ x. P x × Q x) xs
  each_both [] p q = tt
  each_both (x ∷ xs) p q = ((p.0, q.0), each_both xs p.1 q.1)

  each_first : (xs : List A) → AllByRecursion (λ x. P x × Q x) xs → AllByRecursion P xs
  each_first [] h = tt
  each_first (x ∷ xs) h = (h.0.0, each_first xs h.1)

  each_second : (xs : List A) → AllByRecursion (λ x. P x × Q x) xs → AllByRecursion Q xs
  each_second [] h = tt
  each_second (x ∷ xs) h = (h.0.1, each_second xs h.1)

pub equal_groups : (tables : ReaderTables) → AreTables tables → AreGroups IsEqualTable tables.equals
equal_groups tables are = record { slots = are.equal_slots; each = are.equals_some }

pub range_groups : (tables : ReaderTables) → AreTables tables → AreGroups IsRangeTable tables.ranges
range_groups tables are = record {
  slots = are.range_slots;
  each = each_both (λ table. IsDistinct is_interval (keys_of table.1)) (λ table. 0 < length table.1) tables.ranges are.intervals are.ranges_some;
}

pub are_tables : (equals : List (ℕ × EqualTable)) (ranges : List (ℕ × RangeTable)) (joins : List ℕ) → AreGroups IsEqualTable equals → AreGroups IsRangeTable ranges
    → AreTables (record { equals = equals; ranges = ranges; joins = joins })
are_tables equals ranges joins e r = record {
  equal_slots = e.slots;
  range_slots = r.slots;
  intervals = each_first (λ table. IsDistinct is_interval (keys_of table.1)) (λ table. 0 < length table.1) ranges r.each;
  equals_some = e.each;
  ranges_some = each_second (λ table. IsDistinct is_interval (keys_of table.1)) (λ table. 0 < length table.1) ranges r.each;
}

-- a table that is not empty has a reader

some_entry : (es : List (Atom × FileId)) → 0 < length es → (constant : Atom) × (file : FileId) × (find atom_cmp constant es ≡ Some file)
some_entry [] h = absurd (omega arith)
some_entry (e ∷ es) h = (e.0, e.1, ap (λ b. cond b (Some e.1) (find atom_cmp e.0 es)) (constant_itself e.0))

some_constant_in : (table : EqualTable) → 0 < len table → (constant : Atom) × (file : FileId) × (get table constant ≡ Some file)
some_constant_in table h =
    let long = len-entries table in
    let some : 0 < length (entries table) = omega arith in
    let at = some_entry (entries table) some in
    (at.0, at.1, get-entries table at.0 ∙ at.2)

some_interval_in : (table : RangeTable) → 0 < length table → (interval : Interval) × (file : FileId) × (file_of table interval ≡ Some file)
some_interval_in [] h = absurd (omega arith)
some_interval_in (e ∷ es) h = (e.0, e.1, ap (λ b. cond b (Some e.1) (file_of es e.0)) (interval_itself e.0))

module _ (tables : ReaderTables) (are : AreTables tables) where
  equal_in : (slot : ℕ) (table : EqualTable) → lookup (nat_eq slot) tables.equals ≡ Some table → (constant : Atom) × (number : ℕ) × IsReader tables (equal slot constant) number
  equal_in slot table found =
      let at = some_constant_in table (found_has nat_eq slot_is slot_itself (λ _ table. 0 < len table) tables.equals slot table are.equals_some found) in
      (at.0, at.1.0, ap (option_map (λ (file : FileId). file.0)) (found_in get tables.equals slot table at.0 found ∙ at.2))

  range_in : (slot : ℕ) (table : RangeTable) → lookup (nat_eq slot) tables.ranges ≡ Some table → (interval : Interval) × (number : ℕ) × IsReader tables (range slot interval) number
  range_in slot table found =
      let at = some_interval_in table (found_has nat_eq slot_is slot_itself (λ _ table. 0 < length table) tables.ranges slot table are.ranges_some found) in
      (at.0, at.1.0, ap (option_map (λ (file : FileId). file.0)) (found_in file_of tables.ranges slot table at.0 found ∙ at.2))

  -- so the rows have each slot of a group
  module _ (rows : List SignedRow) (have : HaveSlots tables rows) where
    pub equal_slots_had : AllByRecursion (λ table. HaveSlot table.0 rows) tables.equals
    equal_slots_had = each_has nat_eq slot_is slot_itself (λ slot _. HaveSlot slot rows) tables.equals are.equal_slots (λ slot table found.
        let reader = equal_in slot table found in have (equal slot reader.0) reader.1 slot _ reader.2 (IsSelection.equal slot reader.0))

    pub range_slots_had : AllByRecursion (λ table. HaveSlot table.0 rows) tables.ranges
    range_slots_had = each_has nat_eq slot_is slot_itself (λ slot _. HaveSlot slot rows) tables.ranges are.range_slots (λ slot table found.
        let reader = range_in slot table found in have (range slot reader.0) reader.1 slot _ reader.2 (IsSelection.range slot reader.0))

-- whether nothing reads

no_items : {A : Type 0} (xs : List A) → length xs ≡ 0 → xs ≡ []
no_items [] h = refl
no_items (x ∷ xs) h = absurd (omega arith)

read_equal : (equals : List (ℕ × EqualTable)) (ranges : List (ℕ × RangeTable)) (joins : List ℕ) → AreTables (record { equals = equals; ranges = ranges; joins = joins }) → (length equals ≡ 0 → ⊥)
    → IsRead (record { equals = equals; ranges = ranges; joins = joins })
read_equal [] ranges joins are some = absurd (some refl)
read_equal (e ∷ es) ranges joins are some =
    let reader = equal_in (record { equals = e ∷ es; ranges = ranges; joins = joins }) are e.0 e.1 (first_found nat_eq slot_is slot_itself e es) in
    (equal e.0 reader.0, reader.1, reader.2)

read_range : (equals : List (ℕ × EqualTable)) (ranges : List (ℕ × RangeTable)) (joins : List ℕ) → AreTables (record { equals = equals; ranges = ranges; joins = joins }) → (length ranges ≡ 0 → ⊥)
    → IsRead (record { equals = equals; ranges = ranges; joins = joins })
read_range equals [] joins are some = absurd (some refl)
read_range equals (e ∷ es) joins are some =
    let reader = range_in (record { equals = equals; ranges = e ∷ es; joins = joins }) are e.0 e.1 (first_found nat_eq slot_is slot_itself e es) in
    (range e.0 reader.0, reader.1, reader.2)

read_join : (equals : List (ℕ × EqualTable)) (ranges : List (ℕ × RangeTable)) (joins : List ℕ) → (length joins ≡ 0 → ⊥) → IsRead (record { equals = equals; ranges = ranges; joins = joins })
read_join equals ranges [] some = absurd (some refl)
read_join equals ranges (x ∷ xs) some = (joined, x, ap (λ b. b || list_any (nat_eq x) xs) (slot_itself x))

pub unread : (equals : List (ℕ × EqualTable)) (ranges : List (ℕ × RangeTable)) (joins : List ℕ) → equals ≡ [] → ranges ≡ [] → joins ≡ [] → IsUnread (record { equals = equals; ranges = ranges; joins = joins })
unread equals ranges joins e r j reading number reader = nothing reading number (subst (λ (t : ReaderTables). IsReader t reading number) (λ i. record { equals = e i; ranges = r i; joins = j i }) reader)
  where
    nothing : (reading : Reading) (number : ℕ) → IsReader (record { equals = []; ranges = []; joins = [] }) reading number → ⊥
    nothing (equal s c) number h = cc
    nothing (range s i) number h = cc
    nothing joined number h = cc

not_zero : (b : Bool) (n : ℕ) → (IsTrue b ↔ (n ≡ 0)) → b ≡ false → n ≡ 0 → ⊥
not_zero true n d e none = cc
not_zero false n d e none = let t = d.1 none in cc

module _ (tables now : ReaderTables) (is : tables ≡ now) where
  pub tells_equal : AreTables tables → (b : Bool) → (IsTrue b ↔ (length tables.equals ≡ 0)) → b ≡ false → TellsUnread now false
  tells_equal are b d e = subst IsRead is (read_equal tables.equals tables.ranges tables.joins are (not_zero b _ d e))

  pub tells_range : AreTables tables → (b : Bool) → (IsTrue b ↔ (length tables.ranges ≡ 0)) → b ≡ false → TellsUnread now false
  tells_range are b d e = subst IsRead is (read_range tables.equals tables.ranges tables.joins are (not_zero b _ d e))

  pub tells_join : (a b : Bool) → (IsTrue a ↔ (length tables.equals ≡ 0)) → a ≡ true → (IsTrue b ↔ (length tables.ranges ≡ 0)) → b ≡ true
      → (c : Bool) → (IsTrue c ↔ (length tables.joins ≡ 0)) → TellsUnread now c
  tells_join a b p e q f true r =
      subst IsUnread is (unread tables.equals tables.ranges tables.joins (no_items _ (p.0 e)) (no_items _ (q.0 f)) (no_items _ (r.0 refl)))
  tells_join a b p e q f false r = subst IsRead is (read_join tables.equals tables.ranges tables.joins (not_zero false _ r refl))

-- one reader more or less, in what callers see

ok_leads : {T E P Q : Type 0} (r : Result T E) → (P → Q) → OnOk r P → OnOk r Q
ok_leads (Ok x) leads p = leads p
ok_leads (Err e) leads p = tt

err_leads : {T E P Q : Type 0} (r : Result T E) → (P → Q) → OnErr r P → OnErr r Q
err_leads (Ok x) leads p = tt
err_leads (Err e) leads p = leads p

module _ (tables now : ReaderTables) (is : tables ≡ now) where
  pub free_constant : (slot : ℕ) (constant : Atom) → ((n : ℕ) → IsReader now (equal slot constant) n → ⊥) → found_at get tables.equals slot constant ≡ None
  free_constant slot constant free = free_at _ (λ n h. free n (subst (λ (t : ReaderTables). IsReader t (equal slot constant) n) is h))

  pub free_interval : (slot : ℕ) (interval : Interval) → ((n : ℕ) → IsReader now (range slot interval) n → ⊥) → found_at file_of tables.ranges slot interval ≡ None
  free_interval slot interval free = free_at _ (λ n h. free n (subst (λ (t : ReaderTables). IsReader t (range slot interval) n) is h))

  module _ (are : AreTables tables) (equals : List (ℕ × EqualTable)) where
    pub equals_kept : AreGroups IsEqualTable equals → AreTables (record tables { equals = equals })
    equals_kept groups = are_tables equals tables.ranges tables.joins groups (range_groups tables are)

    pub constant_gains : {T E : Type 0} (r : Result T E) (slot : ℕ) (constant : Atom) (file : FileId) → ((n : ℕ) → IsReader now (equal slot constant) n → ⊥)
        → OnOk r (Sets get (eq_by_cmp atom_cmp) tables.equals slot constant (Some file) equals) → OnOk r (Gains now (equal slot constant) file.0 (record tables { equals = equals }))
    constant_gains r slot constant file free sets =
        ok_leads r (λ sets. subst (λ (t : ReaderTables). Gains t (equal slot constant) file.0 (record tables { equals = equals })) is
        (equal_gains tables.equals equals tables.ranges tables.joins slot constant file (free_constant slot constant free) sets)) sets

    pub equals_same : {T E : Type 0} (r : Result T E) → OnErr r (equals ≡ tables.equals) → OnErr r (record tables { equals = equals } ≡ now)
    equals_same r same = err_leads r (λ (e : equals ≡ tables.equals). ap (λ es. record tables { equals = es }) e ∙ is) same

    pub constant_loses : (slot : ℕ) (constant : Atom) (number : ℕ) → IsReader now (equal slot constant) number
        → Sets get (eq_by_cmp atom_cmp) tables.equals slot constant None equals → Loses now (equal slot constant) number (record tables { equals = equals })
    constant_loses slot constant number reader sets =
        subst (λ (t : ReaderTables). Loses t (equal slot constant) number (record tables { equals = equals })) is
        (equal_loses tables.equals equals tables.ranges tables.joins slot constant number
        (subst (λ (t : ReaderTables). IsReader t (equal slot constant) number) (sym is) reader) sets)

  module _ (are : AreTables tables) (ranges : List (ℕ × RangeTable)) where
    pub ranges_kept : AreGroups IsRangeTable ranges → AreTables (record tables { ranges = ranges })
    ranges_kept groups = are_tables tables.equals ranges tables.joins (equal_groups tables are) groups

    pub interval_gains : {T E : Type 0} (r : Result T E) (slot : ℕ) (interval : Interval) (file : FileId) → ((n : ℕ) → IsReader now (range slot interval) n → ⊥)
        → OnOk r (Sets file_of is_interval tables.ranges slot interval (Some file) ranges) → OnOk r (Gains now (range slot interval) file.0 (record tables { ranges = ranges }))
    interval_gains r slot interval file free sets =
        ok_leads r (λ sets. subst (λ (t : ReaderTables). Gains t (range slot interval) file.0 (record tables { ranges = ranges })) is
        (range_gains tables.equals tables.ranges ranges tables.joins slot interval file (free_interval slot interval free) sets)) sets

    pub ranges_same : {T E : Type 0} (r : Result T E) → OnErr r (ranges ≡ tables.ranges) → OnErr r (record tables { ranges = ranges } ≡ now)
    ranges_same r same = err_leads r (λ (e : ranges ≡ tables.ranges). ap (λ rs. record tables { ranges = rs }) e ∙ is) same

    pub interval_loses : (slot : ℕ) (interval : Interval) (number : ℕ) → IsReader now (range slot interval) number
        → Sets file_of is_interval tables.ranges slot interval None ranges → Loses now (range slot interval) number (record tables { ranges = ranges })
    interval_loses slot interval number reader sets =
        subst (λ (t : ReaderTables). Loses t (range slot interval) number (record tables { ranges = ranges })) is
        (range_loses tables.equals tables.ranges ranges tables.joins slot interval number
        (subst (λ (t : ReaderTables). IsReader t (range slot interval) number) (sym is) reader) sets)

  module _ (are : AreTables tables) (joins : List ℕ) where
    pub joins_kept : AreTables (record tables { joins = joins })
    joins_kept = are_tables tables.equals tables.ranges joins (equal_groups tables are) (range_groups tables are)

    pub number_gains : (number : ℕ) → ((n : ℕ) → list_any (nat_eq n) joins ≡ cond (nat_eq number n) true (list_any (nat_eq n) tables.joins)) → Gains now joined number (record tables { joins = joins })
    number_gains number has =
        subst (λ (t : ReaderTables). Gains t joined number (record tables { joins = joins })) is (join_gains tables.equals tables.ranges tables.joins joins number has)

    pub number_loses : (number : ℕ) → ((n : ℕ) → list_any (nat_eq n) joins ≡ cond (nat_eq number n) false (list_any (nat_eq n) tables.joins)) → Loses now joined number (record tables { joins = joins })
    number_loses number has =
        subst (λ (t : ReaderTables). Loses t joined number (record tables { joins = joins })) is (join_loses tables.equals tables.ranges tables.joins joins number has)

  -- the rows have the slots that they need
  pub have_slots : (rows : List SignedRow) → HaveSlots now rows → HaveSlots tables rows
  have_slots rows have = subst (λ (t : ReaderTables). HaveSlots t rows) (sym is) have
