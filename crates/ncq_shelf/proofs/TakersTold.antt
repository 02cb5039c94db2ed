-- The files that a slot's intervals tell for a value are those that take it.
use Rattle.std.proofs.Common.{◌≡◌, ◌↔◌, ◌||◌, ◌+◌, ◌<◌, ℕ, Bool, true, false, cond, List, [], ◌∷◌, map, filter, Some, None, Option, nat_eq, refl, sym, ap, ◌∙◌, subst, true≢false, arith}
use Rattle.std.specs.List.{list_any, IsDistinct}
use Rattle.std.specs.Map.{lookup, keys_of}
use Rattle.std.specs.Option.{option_map, option_and_then}
use Rattle.std.proofs.lemmas.Bool.{eqb-true, eq-eqb}
use Rattle.std.proofs.lemmas.Map.Keys.{IsDistinct-tail}
use Rattle.ncq_base.specs.Counts.{total_by, SameCounts}
use Rattle.ncq_base.specs.Intervals.{in_interval}
use Rattle.ncq_base.specs.declared.atom.Atom.{Atom}
use Rattle.ncq_base.specs.declared.atom.FileId.{FileId}
use Rattle.ncq_base.specs.declared.interval.Interval.{Interval}
use Rattle.ncq_consttab.specs.Ranges.{holders, is_interval}
use Rattle.ncq_consttab.proofs.Intervals.{interval_is}
use Rattle.ncq_readers.proofs.KeyLaws.{interval_itself}
use Rattle.ncq_readers.proofs.TableLaws.{first_found, later_found, found_has, slot_is, slot_itself}
use Rattle.ncq_readers.specs.Passed.{AreTables}
use Rattle.ncq_readers.specs.Readings.Reading.{range}
use Rattle.ncq_readers.specs.ReaderTables.{ReaderTables, IsReader}
use Rattle.ncq_plan.specs.declared.expr.Expr.{Expr}
use Rattle.ncq_shelf.specs.Groups.{Groups}
use Rattle.ncq_shelf.specs.Ranges.{TakesValue}
use Rattle.ncq_shelf.specs.Readers.{IsAmong}
use Rattle.ncq_shelf.specs.Shown.{shown}
use Rattle.ncq_shelf.specs.Wired.{IsShelved}
use Rattle.ncq_shelf.specs.declared.file.File.{File}
use Rattle.ncq_shelf.proofs.Consumers.{range_reader, reader_range}
use Rattle.ncq_shelf.proofs.Maps.{there}

abbrev Table : Type 0
Table = List (Interval × FileId)

-- the files of the entries that have the value, where the first has it or not
abbrev chosen : Bool → Interval × FileId → Atom → Table → List FileId
chosen b e value table =
    map (λ (p : Interval × FileId). p.1) (cond b (e ∷ filter (λ (p : Interval × FileId). in_interval p.0 value) table) (filter (λ (p : Interval × FileId). in_interval p.0 value) table))

-- the numbers of files
abbrev pub ids : List FileId → List ℕ
ids files = map (λ (f : FileId). f.0) files

module _ (n : ℕ) where
  -- how many of the files have the number
  abbrev count : List FileId → ℕ
  count files = total_by (λ (f : FileId). cond (nat_eq n f.0) 1 0) files

  among_counts : (files : List FileId) → IsAmong n (ids files) → 0 < count files
  among_counts [] h = absurd (true≢false (sym h))
  among_counts (f ∷ files) h = by (nat_eq n f.0) h (among_counts files)
    where
      by : (b : Bool) → (b || list_any (nat_eq n) (ids files)) ≡ true → (IsAmong n (ids files) → 0 < count files)
          → 0 < cond b 1 0 + count files
      by true h rest = omega arith
      by false h rest = let r = rest h in omega arith

  counts_among : (files : List FileId) → 0 < count files → IsAmong n (ids files)
  counts_among [] h = absurd (omega arith)
  counts_among (f ∷ files) h = by (nat_eq n f.0) h (counts_among files)
    where
      by : (b : Bool) → 0 < cond b 1 0 + count files → (0 < count files → IsAmong n (ids files))
          → (b || list_any (nat_eq n) (ids files)) ≡ true
      by true h rest = refl
      by false h rest = rest (omega arith)

  -- lists of the same files have the same numbers
  among_same : (xs ys : List FileId) → SameCounts xs ys → IsAmong n (ids xs) → IsAmong n (ids ys)
  among_same xs ys same h =
      let e = same (λ (f : FileId). cond (nat_eq n f.0) 1 0) in
      counts_among ys (subst (λ k. 0 < k) e (among_counts xs h))

  -- an interval of a table, with its file of the number, that has the value
  pub record HasTaker (value : Atom) (table : Table) : Type 0 where
    pub interval : Interval
    pub file : FileId
    pub at : lookup (is_interval interval) table ≡ Some file
    pub within : in_interval interval value ≡ true
    pub is : file.0 ≡ n

  among_holder : (value : Atom) (table : Table) → IsDistinct is_interval (keys_of table) → IsAmong n (ids (holders value table)) → HasTaker value table
  among_holder value [] apart h = absurd (true≢false (sym h))
  among_holder value (e ∷ table) apart h = by (in_interval e.0 value) refl h (among_holder value table (IsDistinct-tail is_interval e.0 (keys_of table) apart))
    where
      later : HasTaker value table → HasTaker value (e ∷ table)
      later t = record { interval = t.interval; file = t.file; at = later_found is_interval interval_is interval_itself e table t.interval t.file apart t.at; within = t.within; is = t.is }

      first : (b : Bool) → in_interval e.0 value ≡ true → nat_eq n e.1.0 ≡ b → (b || list_any (nat_eq n) (ids (holders value table))) ≡ true → (IsAmong n (ids (holders value table)) → HasTaker value table) → HasTaker value (e ∷ table)
      first true q same h rest = record { interval = e.0; file = e.1; at = first_found is_interval interval_is interval_itself e table; within = q; is = sym (eqb-true n e.1.0 same) }
      first false q same h rest = later (rest h)

      by : (b : Bool) → in_interval e.0 value ≡ b → IsAmong n (ids (chosen b e value table))
          → (IsAmong n (ids (holders value table)) → HasTaker value table) → HasTaker value (e ∷ table)
      by true q h rest = first (nat_eq n e.1.0) q refl h rest
      by false q h rest = later (rest h)

  holder_among : (value : Atom) (table : Table) (interval : Interval) (file : FileId) → lookup (is_interval interval) table ≡ Some file → in_interval interval value ≡ true → file.0 ≡ n → IsAmong n (ids (holders value table))
  holder_among value [] interval file at within is = absurd (there at refl)
  holder_among value (e ∷ table) interval file at within is = by (is_interval interval e.0) refl at (holder_among value table interval file)
    where
      front : (b : Bool) → IsAmong n (ids (holders value table)) → IsAmong n (ids (chosen b e value table))
      front true rest = ap (λ b. nat_eq n e.1.0 || b) rest ∙ or_true (nat_eq n e.1.0)
        where
          or_true : (b : Bool) → (b || true) ≡ true
          or_true true = refl
          or_true false = refl
      front false rest = rest

      here : in_interval e.0 value ≡ true → nat_eq n e.1.0 ≡ true → IsAmong n (ids (holders value (e ∷ table)))
      here q same =
          ap (λ b. list_any (nat_eq n) (ids (chosen b e value table))) q
          ∙ ap (λ b. b || list_any (nat_eq n) (ids (holders value table))) same

      by : (b : Bool) → is_interval interval e.0 ≡ b → cond b (Some e.1) (lookup (is_interval interval) table) ≡ Some file → (lookup (is_interval interval) table ≡ Some file → in_interval interval value ≡ true → file.0 ≡ n → IsAmong n (ids (holders value table)))
          → IsAmong n (ids (holders value (e ∷ table)))
      by true q f rest =
          let same : e.1 ≡ file = cc in
          here (ap (λ i. in_interval i value) (sym (interval_is interval e.0 q)) ∙ within) (eq-eqb n e.1.0 (sym is ∙ ap (λ (x : FileId). x.0) (sym same)))
      by false q f rest = front (in_interval e.0 value) (rest f within is)

module _ (gs : Groups) (files : List (ℕ × File)) (numbers : List (Expr × ℕ)) (scans : List (List ℕ × ReaderTables)) (shelved : IsShelved gs files numbers scans)
    (input : ℕ) (file : File) (at : lookup (nat_eq input) files ≡ Some file) (slot : ℕ) (value : Atom) (n : ℕ) where
  abbrev number_of : Option Table → Interval → Option ℕ
  number_of o interval = option_map (λ (x : FileId). x.0) (option_and_then (λ (t : Table). lookup (is_interval interval) t) o)

  reader_of : (o : Option Table) → lookup (nat_eq slot) file.readers.ranges ≡ o → (t : TakesValue (shown gs files) input slot value n)
      → number_of o t.interval ≡ Some n
  reader_of o found t =
      sym (ap (λ o. number_of o t.interval) found)
      ∙ range_reader gs files numbers scans shelved input file at n slot t.interval t.selects

  -- the files that the table of the slot tells for the value are those that take it
  pub takers_told : (are : AreTables file.readers) (table : Table) → lookup (nat_eq slot) file.readers.ranges ≡ Some table → (told : List FileId) → SameCounts told (holders value table)
      → IsAmong n (ids told) ↔ TakesValue (shown gs files) input slot value n
  takers_told are table found told same = (is, was)
    where
      is : IsAmong n (ids told) → TakesValue (shown gs files) input slot value n
      is h =
          let t = among_holder n value table (found_has nat_eq slot_is slot_itself (λ _ (t : Table). IsDistinct is_interval (keys_of t)) file.readers.ranges slot table are.intervals found) (among_same n told (holders value table) same h) in
          let reader : IsReader file.readers (range slot t.interval) n =
          ap (λ o. number_of o t.interval) found ∙ ap (option_map (λ (x : FileId). x.0)) t.at ∙ ap Some t.is in
          record { interval = t.interval; selects = reader_range gs files numbers scans shelved input file at n slot t.interval reader; within = t.within }

      was : TakesValue (shown gs files) input slot value n → IsAmong n (ids told)
      was t = among_same n (holders value table) told (λ f. sym (same f)) (by (lookup (is_interval t.interval) table) refl (reader_of (Some table) found t))
        where
          by : (o : Option FileId) → lookup (is_interval t.interval) table ≡ o → option_map (λ (x : FileId). x.0) o ≡ Some n → IsAmong n (ids (holders value table))
          by None e r = absurd (there r refl)
          by (Some f) e r = let is : f.0 ≡ n = cc in holder_among n value table t.interval f e t.within is

  -- where the slot has no table, no file takes it
  pub none_told : lookup (nat_eq slot) file.readers.ranges ≡ None → IsAmong n [] ↔ TakesValue (shown gs files) input slot value n
  none_told none = (λ h. absurd (true≢false (sym h)), λ t. absurd (there (reader_of None none t) refl))
