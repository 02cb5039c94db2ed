-- The intervals that read a file at a slot, and the files that read it by them.
use Rattle.std.proofs.Common.{◌≡◌, ◌↔◌, ℕ, Bool, true, false, cond, List, [], ◌∷◌, Some, None, Option, nat_eq, refl, sym, ap, ◌∙◌, subst, true≢false}
use Rattle.std.specs.List.{AllByRecursion}
use Rattle.std.specs.Map.{lookup, keys_of}
use Rattle.std.specs.Option.{option_map, option_map_or, option_and_then}
use Rattle.ncq_base.specs.declared.atom.FileId.{FileId}
use Rattle.ncq_base.specs.declared.interval.Interval.{Interval}
use Rattle.ncq_consttab.specs.Ranges.{is_interval}
use Rattle.ncq_consttab.proofs.Intervals.{interval_is}
use Rattle.ncq_row.specs.Embeddings.{Row}
use Rattle.ncq_row.specs.Values.{atom_at}
use Rattle.ncq_midfile.specs.Views.{is_within, is_held}
use Rattle.ncq_readers.specs.Readings.{Reading}
use Rattle.ncq_readers.specs.Readings.Reading.{range}
use Rattle.ncq_readers.specs.ReaderTables.{ReaderTables, IsReader}
use Rattle.ncq_readers.proofs.KeyLaws.{interval_itself}
use Rattle.ncq_shelf.specs.Enrolled.{HasFile}
use Rattle.ncq_shelf.specs.Groups.{intervals_in, intervals_at}
use Rattle.ncq_shelf.specs.Wired.{AreAlike}
use Rattle.ncq_shelf.specs.declared.file.File.{File}
use Rattle.ncq_shelf.specs.declared.group.Group.{Group}
use Rattle.ncq_shelf.proofs.HeldBy.{Table, any_found, any_held}

abbrev in_slot : Option Table → List Interval
in_slot o = option_map_or keys_of o []

abbrev number_at : Interval → Option Table → Option ℕ
number_at interval o = option_map (λ (x : FileId). x.0) (option_and_then (λ (t : Table). lookup (is_interval interval) t) o)

none_read : (n : ℕ) → ◌≡◌ {A = Option ℕ} None (Some n) → ⊥
none_read n h = cc

-- a row that is held is one of an interval that reads
pub record IsHolder (t : ReaderTables) (slot : ℕ) (row : Row) : Type 0 where
  pub interval : Interval
  pub number : ℕ
  pub reads : IsReader t (range slot interval) number
  pub within : is_within slot interval row ≡ true

pub holder_of : (t : ReaderTables) (slot : ℕ) (row : Row) → is_held slot (intervals_in t slot) row ≡ true → IsHolder t slot row
holder_of t slot row h = by (lookup (nat_eq slot) t.ranges) refl
  where
    by : (o : Option Table) → lookup (nat_eq slot) t.ranges ≡ o → IsHolder t slot row
    by None e = absurd (true≢false (sym h ∙ ap (λ o. is_held slot (in_slot o) row) e))
    by (Some table) e =
        let f = any_found (atom_at row slot) table (sym (ap (λ o. is_held slot (in_slot o) row) e) ∙ h) in
        record { interval = f.0; number = f.1.0; reads = ap (number_at f.0) e ∙ ap (option_map (λ (x : FileId). x.0)) f.2; within = f.3 }

module _ (t : ReaderTables) (slot : ℕ) (interval : Interval) (n : ℕ) (reads : IsReader t (range slot interval) n) where
  reads_in : (o : Option Table) → lookup (nat_eq slot) t.ranges ≡ o → number_at interval o ≡ Some n
  reads_in o e = sym (ap (number_at interval) e) ∙ reads

  -- and what an interval has that reads is held
  pub held_of : (row : Row) → is_within slot interval row ≡ true → is_held slot (intervals_in t slot) row ≡ true
  held_of row within = by (lookup (nat_eq slot) t.ranges) refl
    where
      found : (table : Table) (o : Option FileId) → lookup (is_interval interval) table ≡ o → option_map (λ (x : FileId). x.0) o ≡ Some n → is_held slot (keys_of table) row ≡ true
      found table None e r = absurd (none_read n r)
      found table (Some file) e r = any_held (atom_at row slot) table interval file e within

      by : (o : Option Table) → lookup (nat_eq slot) t.ranges ≡ o → is_held slot (intervals_in t slot) row ≡ true
      by None e = absurd (none_read n (reads_in None e))
      by (Some table) e = ap (λ o. is_held slot (in_slot o) row) e ∙ found table (lookup (is_interval interval) table) refl (reads_in (Some table) e)

  -- there is a first interval where there is any
  pub first_of : (first : Interval) × (more : List Interval) × (intervals_in t slot ≡ first ∷ more)
  first_of = by (lookup (nat_eq slot) t.ranges) refl
    where
      some : (table : Table) → lookup (nat_eq slot) t.ranges ≡ Some table → (first : Interval) × (more : List Interval) × (intervals_in t slot ≡ first ∷ more)
      some [] e = absurd (none_read n (reads_in (Some []) e))
      some (x ∷ xs) e = (x.0, keys_of xs, ap in_slot e)

      by : (o : Option Table) → lookup (nat_eq slot) t.ranges ≡ o → (first : Interval) × (more : List Interval) × (intervals_in t slot ≡ first ∷ more)
      by None e = absurd (none_read n (reads_in None e))
      by (Some table) e = some table e

  -- what holds of all intervals holds of one that reads
  pub one_of : (P : Interval → Type 0) → AllByRecursion P (intervals_in t slot) → P interval
  one_of P all = by (lookup (nat_eq slot) t.ranges) refl
    where
      along : (table : Table) (file : FileId) → lookup (is_interval interval) table ≡ Some file → AllByRecursion P (keys_of table) → P interval
      along [] file at each = cc
      along (x ∷ xs) file at each =
          elim (is_interval interval x.0) as (λ b. is_interval interval x.0 ≡ b → cond b (Some x.1) (lookup (is_interval interval) xs) ≡ Some file → P interval) [
            | true ↦ λ q found. subst P (sym (interval_is interval x.0 q)) each.0
            | false ↦ λ q found. along xs file found each.1
          ] refl at

      found : (table : Table) (o : Option FileId) → lookup (is_interval interval) table ≡ o → option_map (λ (x : FileId). x.0) o ≡ Some n → AllByRecursion P (keys_of table) → P interval
      found table None e r each = absurd (none_read n r)
      found table (Some file) e r each = along table file e each

      by : (o : Option Table) → lookup (nat_eq slot) t.ranges ≡ o → P interval
      by None e = absurd (none_read n (reads_in None e))
      by (Some table) e = found table (lookup (is_interval interval) table) refl (reads_in (Some table) e) (subst (λ o. AllByRecursion P (in_slot o)) e all)

-- what holds of each interval that reads holds of all
pub each_of : (P : Interval → Type 0) (t : ReaderTables) (slot : ℕ) → ((interval : Interval) (n : ℕ) → IsReader t (range slot interval) n → P interval) → AllByRecursion P (intervals_in t slot)
each_of P t slot each = by (lookup (nat_eq slot) t.ranges) refl
  where
    along : (table : Table) → ((i : Interval) (f : FileId) → lookup (is_interval i) table ≡ Some f → P i) → AllByRecursion P (keys_of table)
    along [] h = tt
    along (x ∷ xs) h = (h x.0 x.1 (ap (λ b. cond b (Some x.1) (lookup (is_interval x.0) xs)) (interval_itself x.0)), along xs (λ i f at. later i f at (is_interval i x.0) refl))
      where
        later : (i : Interval) (f : FileId) → lookup (is_interval i) xs ≡ Some f → (b : Bool) → is_interval i x.0 ≡ b → P i
        later i f at true q = h i x.1 (ap (λ b. cond b (Some x.1) (lookup (is_interval i) xs)) q)
        later i f at false q = h i f (ap (λ b. cond b (Some x.1) (lookup (is_interval i) xs)) q ∙ at)

    by : (o : Option Table) → lookup (nat_eq slot) t.ranges ≡ o → AllByRecursion P (intervals_in t slot)
    by None e = subst (λ o. AllByRecursion P (in_slot o)) (sym e) tt
    by (Some table) e = subst (λ o. AllByRecursion P (in_slot o)) (sym e) (along table (λ i f at. each i f.0 (ap (number_at i) e ∙ ap (option_map (λ (x : FileId). x.0)) at)))

pub first_reads : (t : ReaderTables) (slot : ℕ) (first : Interval) (more : List Interval) → intervals_in t slot ≡ first ∷ more → (n : ℕ) × IsReader t (range slot first) n
first_reads t slot first more is = (subst (AllByRecursion (λ i. (n : ℕ) × IsReader t (range slot i) n)) is (each_of (λ i. (n : ℕ) × IsReader t (range slot i) n) t slot (λ i n r. (n, r)))).0

-- intervals that hold the same rows, and of which there are some in both or none
pub record HoldAlike (slot : ℕ) (old new : List Interval) : Type 0 where
  pub held : (row : Row) → is_held slot new row ≡ is_held slot old row
  pub some : (first : Interval) (more : List Interval) → old ≡ first ∷ more → (other : Interval) × (rest : List Interval) × (new ≡ other ∷ rest)

pub alike_itself : (slot : ℕ) (intervals : List Interval) → HoldAlike slot intervals intervals
alike_itself slot intervals = record { held = λ row. refl; some = λ first more is. (first, more, is) }

one_bool : (a b : Bool) → (a ≡ true → b ≡ true) → (b ≡ true → a ≡ true) → a ≡ b
one_bool true b f g = sym (f refl)
one_bool false true f g = g refl
one_bool false false f g = refl

alike_tables : (slot : ℕ) (old new : ReaderTables) → ((reading : Reading) (n : ℕ) → IsReader new reading n ↔ IsReader old reading n) → HoldAlike slot (intervals_in old slot) (intervals_in new slot)
alike_tables slot old new same = record {
  held = λ row. one_bool (is_held slot (intervals_in new slot) row) (is_held slot (intervals_in old slot) row)
      (λ h. let r = holder_of new slot row h in held_of old slot r.interval r.number ((same (range slot r.interval) r.number).0 r.reads) row r.within)
      (λ h. let r = holder_of old slot row h in held_of new slot r.interval r.number ((same (range slot r.interval) r.number).1 r.reads) row r.within);
  some = λ first more is. let r = first_reads old slot first more is in first_of new slot first r.0 ((same (range slot first) r.0).1 r.1);
}

-- the intervals at a group whose input is there
pub intervals_here : (files : List (ℕ × File)) (group : Group) (file : File) → lookup (nat_eq group.input) files ≡ Some file → intervals_at files group ≡ intervals_in file.readers group.slot
intervals_here files group file at = ap (λ o. option_map_or (λ (f : File). intervals_in f.readers group.slot) o []) at

-- files whose readers are alike
pub alike_at : (files next : List (ℕ × File)) (group : Group) → HasFile files group.input → AreAlike files next → HoldAlike group.slot (intervals_at files group) (intervals_at next group)
alike_at files next group here alike =
    let a = alike.there group.input here.file here.at in
    subst (λ is. HoldAlike group.slot is (intervals_at next group)) (sym (intervals_here files group here.file here.at))
    (subst (HoldAlike group.slot (intervals_in here.file.readers group.slot)) (sym (intervals_here next group a.0 a.1)) (alike_tables group.slot here.file.readers a.0.readers a.3))
