-- What reads a file, with one reader more or less.
use Rattle.std.proofs.Common.{◌≡◌, ℕ, true, false, cond, nat_eq, true≢false, List, refl, sym, ◌∙◌, ap, inl, inr, ◌⊎◌}
use Rattle.std.specs.Prelude.{Option, Some, None}
use Rattle.std.specs.FinMap.{FinMap, get}
use Rattle.std.specs.List.{list_any}
use Rattle.std.specs.Ordering.{eq_by_cmp}
use Rattle.std.proofs.lemmas.Bool.{eqb-true, eq-eqb}
use Rattle.ncq_base.specs.Atoms.{atom_cmp}
use Rattle.ncq_base.specs.declared.atom.Atom.{Atom}
use Rattle.ncq_base.specs.declared.atom.FileId.{FileId}
use Rattle.ncq_base.specs.declared.interval.Interval.{Interval}
use Rattle.ncq_consttab.specs.Ranges.{is_interval}
use Rattle.ncq_consttab.proofs.Intervals.{interval_is}
use Rattle.ncq_readers.specs.Readings.{Reading}
use Rattle.ncq_readers.specs.Readings.Reading.{equal, range, joined}
use Rattle.ncq_readers.specs.ReaderTables.{ReaderTables, IsReader, Gains, Loses}
use Rattle.ncq_readers.specs.Tables.{found_at, file_of, Sets}
use Rattle.ncq_readers.proofs.TableLaws.{reads, gain_here, gain_kept, gain_only, lose_gone, lose_kept, lose_only}
use Rattle.ncq_readers.proofs.KeyLaws.{constant_is, constant_itself, interval_itself}

-- where no file reads so, none is found
pub free_at : (o : Option FileId) → ((n : ℕ) → reads o n → ⊥) → o ≡ None
free_at None h = refl
free_at (Some file) h = absurd (h file.0 refl)

abbrev tables_of : List (ℕ × FinMap atom_cmp FileId) → List (ℕ × List (Interval × FileId)) → List ℕ → ReaderTables
tables_of equals ranges joins = record { equals = equals; ranges = ranges; joins = joins }

module _ (es fs : List (ℕ × FinMap atom_cmp FileId)) (ranges : List (ℕ × List (Interval × FileId))) (joins : List ℕ) (slot : ℕ) (constant : Atom) where
  abbrev Old : Reading → ℕ → Type 0
  Old reading n = IsReader (tables_of es ranges joins) reading n

  abbrev New : Reading → ℕ → Type 0
  New reading n = IsReader (tables_of fs ranges joins) reading n

  abbrev Same : Reading → ℕ → ℕ → Type 0
  Same other n number = (other ≡ equal slot constant) × (n ≡ number)

  is_this : (s : ℕ) (c : Atom) (n number : ℕ) → (s ≡ slot) × (c ≡ constant) × (n ≡ number) → Same (equal s c) n number
  is_this s c n number is = ((λ i. equal (is.0 i) (is.1 i)), is.2)

  module _ (file : FileId) (free : found_at get es slot constant ≡ None) (sets : Sets get (eq_by_cmp atom_cmp) es slot constant (Some file) fs) where
    equal_kept : (other : Reading) (n : ℕ) → Old other n → New other n
    equal_kept (equal s c) n h = gain_kept get (eq_by_cmp atom_cmp) constant_is constant_itself es fs slot constant file free sets s c n h
    equal_kept (range s i) n h = h
    equal_kept joined n h = h

    equal_only : (other : Reading) (n : ℕ) → New other n → Old other n ⊎ Same other n file.0
    equal_only (equal s c) n h =
        elim (gain_only get (eq_by_cmp atom_cmp) constant_is constant_itself es fs slot constant file free sets s c n h) as (λ _. Old (equal s c) n ⊎ Same (equal s c) n file.0) [
          | inl there ↦ inl there
          | inr is ↦ inr (is_this s c n file.0 is)
        ]
    equal_only (range s i) n h = inl h
    equal_only joined n h = inl h

    pub equal_gains : Gains (tables_of es ranges joins) (equal slot constant) file.0 (tables_of fs ranges joins)
    equal_gains = record {
      here = gain_here get (eq_by_cmp atom_cmp) constant_is constant_itself es fs slot constant file free sets;
      kept = equal_kept;
      only = equal_only;
    }

  module _ (number : ℕ) (there : reads (found_at get es slot constant) number) (sets : Sets get (eq_by_cmp atom_cmp) es slot constant None fs) where
    equal_left : (other : Reading) (n : ℕ) → Old other n → New other n ⊎ Same other n number
    equal_left (equal s c) n h =
        elim (lose_kept get (eq_by_cmp atom_cmp) constant_is constant_itself es fs slot constant sets number there s c n h) as (λ _. New (equal s c) n ⊎ Same (equal s c) n number) [
          | inl stays ↦ inl stays
          | inr is ↦ inr (is_this s c n number is)
        ]
    equal_left (range s i) n h = inl h
    equal_left joined n h = inl h

    equal_was : (other : Reading) (n : ℕ) → New other n → Old other n
    equal_was (equal s c) n h = lose_only get (eq_by_cmp atom_cmp) constant_is constant_itself es fs slot constant sets s c n h
    equal_was (range s i) n h = h
    equal_was joined n h = h

    pub equal_loses : Loses (tables_of es ranges joins) (equal slot constant) number (tables_of fs ranges joins)
    equal_loses = record {
      gone = lose_gone get (eq_by_cmp atom_cmp) constant_is constant_itself es fs slot constant sets number;
      kept = equal_left;
      only = equal_was;
    }

module _ (equals : List (ℕ × FinMap atom_cmp FileId)) (es fs : List (ℕ × List (Interval × FileId))) (joins : List ℕ) (slot : ℕ) (interval : Interval) where
  abbrev Before : Reading → ℕ → Type 0
  Before reading n = IsReader (tables_of equals es joins) reading n

  abbrev After : Reading → ℕ → Type 0
  After reading n = IsReader (tables_of equals fs joins) reading n

  abbrev One : Reading → ℕ → ℕ → Type 0
  One other n number = (other ≡ range slot interval) × (n ≡ number)

  is_one : (s : ℕ) (i : Interval) (n number : ℕ) → (s ≡ slot) × (i ≡ interval) × (n ≡ number) → One (range s i) n number
  is_one s i n number is = ((λ j. range (is.0 j) (is.1 j)), is.2)

  module _ (file : FileId) (free : found_at file_of es slot interval ≡ None) (sets : Sets file_of is_interval es slot interval (Some file) fs) where
    range_kept : (other : Reading) (n : ℕ) → Before other n → After other n
    range_kept (equal s c) n h = h
    range_kept (range s i) n h = gain_kept file_of is_interval interval_is interval_itself es fs slot interval file free sets s i n h
    range_kept joined n h = h

    range_only : (other : Reading) (n : ℕ) → After other n → Before other n ⊎ One other n file.0
    range_only (equal s c) n h = inl h
    range_only (range s i) n h =
        elim (gain_only file_of is_interval interval_is interval_itself es fs slot interval file free sets s i n h) as (λ _. Before (range s i) n ⊎ One (range s i) n file.0) [
          | inl there ↦ inl there
          | inr is ↦ inr (is_one s i n file.0 is)
        ]
    range_only joined n h = inl h

    pub range_gains : Gains (tables_of equals es joins) (range slot interval) file.0 (tables_of equals fs joins)
    range_gains = record {
      here = gain_here file_of is_interval interval_is interval_itself es fs slot interval file free sets;
      kept = range_kept;
      only = range_only;
    }

  module _ (number : ℕ) (there : reads (found_at file_of es slot interval) number) (sets : Sets file_of is_interval es slot interval None fs) where
    range_left : (other : Reading) (n : ℕ) → Before other n → After other n ⊎ One other n number
    range_left (equal s c) n h = inl h
    range_left (range s i) n h =
        elim (lose_kept file_of is_interval interval_is interval_itself es fs slot interval sets number there s i n h) as (λ _. After (range s i) n ⊎ One (range s i) n number) [
          | inl stays ↦ inl stays
          | inr is ↦ inr (is_one s i n number is)
        ]
    range_left joined n h = inl h

    range_was : (other : Reading) (n : ℕ) → After other n → Before other n
    range_was (equal s c) n h = h
    range_was (range s i) n h = lose_only file_of is_interval interval_is interval_itself es fs slot interval sets s i n h
    range_was joined n h = h

    pub range_loses : Loses (tables_of equals es joins) (range slot interval) number (tables_of equals fs joins)
    range_loses = record {
      gone = lose_gone file_of is_interval interval_is interval_itself es fs slot interval sets number;
      kept = range_left;
      only = range_was;
    }

-- joins

module _ (equals : List (ℕ × FinMap atom_cmp FileId)) (ranges : List (ℕ × List (Interval × FileId))) (xs ys : List ℕ) (number : ℕ) where
  abbrev With : List ℕ → Reading → ℕ → Type 0
  With joins reading n = IsReader (tables_of equals ranges joins) reading n

  abbrev Joined : Reading → ℕ → Type 0
  Joined other n = (other ≡ joined) × (n ≡ number)

  module _ (has : (n : ℕ) → list_any (nat_eq n) ys ≡ cond (nat_eq number n) true (list_any (nat_eq n) xs)) where
    join_kept : (other : Reading) (n : ℕ) → With xs other n → With ys other n
    join_kept (equal s c) n h = h
    join_kept (range s i) n h = h
    join_kept joined n h = has n ∙ elim (nat_eq number n) as (λ b. cond b true (list_any (nat_eq n) xs) ≡ true) [ true ↦ refl | false ↦ h ]

    join_only : (other : Reading) (n : ℕ) → With ys other n → With xs other n ⊎ Joined other n
    join_only (equal s c) n h = inl h
    join_only (range s i) n h = inl h
    join_only joined n h =
        elim (nat_eq number n) as (λ b. nat_eq number n ≡ b → cond b true (list_any (nat_eq n) xs) ≡ true → With xs joined n ⊎ Joined joined n) [
          | true ↦ λ q e. inr (refl, sym (eqb-true number n q))
          | false ↦ λ q e. inl e
        ] refl (sym (has n) ∙ h)

    pub join_gains : Gains (tables_of equals ranges xs) joined number (tables_of equals ranges ys)
    join_gains = record {
      here = has number ∙ ap (λ b. cond b true (list_any (nat_eq number) xs)) (eq-eqb number number refl);
      kept = join_kept;
      only = join_only;
    }

  module _ (has : (n : ℕ) → list_any (nat_eq n) ys ≡ cond (nat_eq number n) false (list_any (nat_eq n) xs)) where
    join_gone : With ys joined number → ⊥
    join_gone h = absurd (true≢false (sym h ∙ has number ∙ ap (λ b. cond b false (list_any (nat_eq number) xs)) (eq-eqb number number refl)))

    join_left : (other : Reading) (n : ℕ) → With xs other n → With ys other n ⊎ Joined other n
    join_left (equal s c) n h = inl h
    join_left (range s i) n h = inl h
    join_left joined n h =
        elim (nat_eq number n) as (λ b. nat_eq number n ≡ b → list_any (nat_eq n) ys ≡ cond b false (list_any (nat_eq n) xs) → With ys joined n ⊎ Joined joined n) [
          | true ↦ λ q e. inr (refl, sym (eqb-true number n q))
          | false ↦ λ q e. inl (e ∙ h)
        ] refl (has n)

    join_was : (other : Reading) (n : ℕ) → With ys other n → With xs other n
    join_was (equal s c) n h = h
    join_was (range s i) n h = h
    join_was joined n h =
        elim (nat_eq number n) as (λ b. cond b false (list_any (nat_eq n) xs) ≡ true → With xs joined n) [
          | true ↦ λ e. cc
          | false ↦ λ e. e
        ] (sym (has n) ∙ h)

    pub join_loses : Loses (tables_of equals ranges xs) joined number (tables_of equals ranges ys)
    join_loses = record { gone = join_gone; kept = join_left; only = join_was }
