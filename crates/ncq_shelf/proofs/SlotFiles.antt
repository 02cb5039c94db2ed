-- The input of a group is there, and the files of the intervals of a slot are those that select so.
use Rattle.std.proofs.Common.{◌≡◌, ◌||◌, ℕ, Bool, true, false, cond, List, [], ◌∷◌, map, Some, None, Option, IfSome, IfNone, nat_eq, refl, sym, ap, ◌∙◌, subst}
use Rattle.std.specs.List.{AllByRecursion, IsDistinct, list_any}
use Rattle.std.proofs.lemmas.Bool.{eq-eqb}
use Rattle.std.specs.Map.{lookup, keys_of}
use Rattle.std.specs.Option.{option_map, option_and_then}
use Rattle.ncq_base.specs.declared.atom.FileId.{FileId}
use Rattle.ncq_base.specs.declared.interval.Interval.{Interval}
use Rattle.ncq_consttab.specs.Ranges.{is_interval}
use Rattle.ncq_consttab.proofs.Intervals.{interval_is}
use Rattle.ncq_readers.proofs.KeyLaws.{interval_itself}
use Rattle.ncq_readers.proofs.TableLaws.{each_has, found_has, slot_is, slot_itself}
use Rattle.ncq_readers.specs.Passed.{AreTables}
use Rattle.ncq_readers.specs.Readings.Reading.{range}
use Rattle.ncq_readers.specs.ReaderTables.{ReaderTables, IsReader}
use Rattle.ncq_plan.specs.declared.expr.Expr.{Expr}
use Rattle.ncq_shelf.specs.Groups.{Groups, IsGrouped, IsRightFor, group_of}
use Rattle.ncq_shelf.specs.Ranges.{NoneSelects, SelectsRange}
use Rattle.ncq_shelf.specs.Readers.{IsAmong}
use Rattle.ncq_shelf.specs.Shown.{shown, state_of}
use Rattle.ncq_shelf.specs.Stands.{IsThere}
use Rattle.ncq_shelf.specs.Wired.{IsShelved}
use Rattle.ncq_shelf.specs.declared.file.File.{File}
use Rattle.ncq_shelf.specs.declared.group.Group.{Group}
use Rattle.ncq_shelf.proofs.Consumers.{range_reader, reader_range}
use Rattle.ncq_shelf.proofs.HeldBy.{Table}
use Rattle.ncq_shelf.proofs.Maps.{there}
use Rattle.ncq_shelf.proofs.ShownFiles.{get_shown}
use Rattle.ncq_shelf.proofs.Widths.{over_inner}

-- the number of the file of an interval, where there is a table that has it
abbrev number_of : Option Table → Interval → Option ℕ
number_of o interval = option_map (λ (x : FileId). x.0) (option_and_then (λ (t : Table). lookup (is_interval interval) t) o)

abbrev pub numbers_in : Table → List ℕ
numbers_in table = map (λ (f : FileId). f.0) (map (λ (e : Interval × FileId). e.1) table)

-- the file of an interval of the table is among its files
file_among : (n : ℕ) (interval : Interval) (table : Table) → number_of (Some table) interval ≡ Some n → IsAmong n (numbers_in table)
file_among n interval [] h = absurd (there h refl)
file_among n interval (e ∷ table) h = by (is_interval interval e.0) h (file_among n interval table)
  where
    or_true : (b : Bool) → (b || true) ≡ true
    or_true true = refl
    or_true false = refl

    by : (b : Bool) → option_map (λ (x : FileId). x.0) (cond b (Some e.1) (lookup (is_interval interval) table)) ≡ Some n
        → (number_of (Some table) interval ≡ Some n → IsAmong n (numbers_in table)) → IsAmong n (numbers_in (e ∷ table))
    by true h rest = let is : e.1.0 ≡ n = cc in ap (λ b. b || list_any (nat_eq n) (numbers_in table)) (eq-eqb n e.1.0 (sym is))
    by false h rest = ap (λ b. nat_eq n e.1.0 || b) (rest h) ∙ or_true (nat_eq n e.1.0)

module _ (gs : Groups) (files : List (ℕ × File)) (numbers : List (Expr × ℕ)) (scans : List (List ℕ × ReaderTables)) (shelved : IsShelved gs files numbers scans) where
  pub input_there : IsGrouped files gs → (n : ℕ) (file : File) (group : Group) → lookup (nat_eq n) files ≡ Some file → group_of file.content ≡ Some group → IsThere (shown gs files) group.input
  input_there grouped n file group at of =
      let v = subst (IsRightFor gs file.expr) of (grouped.right n file at) in
      let over = over_inner gs files numbers scans shelved grouped n file group v.inner group.slot v.interval at of v.is in
      record { file = over.file; at = over.at }

  pub table_there : (input : ℕ) (file : File) → lookup (nat_eq input) files ≡ Some file → (slot : ℕ) → AreTables file.readers → (table : Table) → lookup (nat_eq slot) file.readers.ranges ≡ Some table
      → AllByRecursion (λ (e : Interval × FileId). IsThere (shown gs files) e.1.0) table
  table_there input file at slot are table found =
      each_has is_interval interval_is interval_itself (λ _ (f : FileId). IsThere (shown gs files) f.0) table
      (found_has nat_eq slot_is slot_itself (λ _ (t : Table). IsDistinct is_interval (keys_of t)) file.readers.ranges slot table are.intervals found)
      (λ interval f its.
      let reader : IsReader file.readers (range slot interval) f.0 =
      ap (λ o. option_map (λ (x : FileId). x.0) (option_and_then (λ (t : Table). lookup (is_interval interval) t) o)) found ∙ ap (option_map (λ (x : FileId). x.0)) its in
      let s = reader_range gs files numbers scans shelved input file at f.0 slot interval reader in
      record { file = s.stands.file; at = s.stands.at })

  -- where the input is not there, no file selects
  pub absent_none : (input slot : ℕ) → lookup (nat_eq input) files ≡ None → NoneSelects (shown gs files) input slot
  absent_none input slot none interval n s = there s.over.at (get_shown gs files input ∙ ap (option_map (state_of gs)) none)

  module _ (input : ℕ) (file : File) (at : lookup (nat_eq input) files ≡ Some file) (slot : ℕ) where
    number_told : (o : Option Table) → lookup (nat_eq slot) file.readers.ranges ≡ o → (interval : Interval) (n : ℕ) → SelectsRange (shown gs files) input slot interval n
        → number_of o interval ≡ Some n
    number_told o found interval n s = sym (ap (λ o. number_of o interval) found) ∙ range_reader gs files numbers scans shelved input file at n slot interval s

    -- each file that selects by an interval of the slot is among those of its table
    pub table_all : (table : Table) → lookup (nat_eq slot) file.readers.ranges ≡ Some table → (interval : Interval) (n : ℕ) → SelectsRange (shown gs files) input slot interval n
        → IsAmong n (numbers_in table)
    table_all table found interval n s = file_among n interval table (number_told (Some table) found interval n s)

    -- and where there is no table, there is no such file
    pub table_none : lookup (nat_eq slot) file.readers.ranges ≡ None → NoneSelects (shown gs files) input slot
    table_none none interval n s = there (number_told None none interval n s) refl

-- so are their numbers
pub numbers_there : (P : ℕ → Type 0) (table : Table) → AllByRecursion (λ (e : Interval × FileId). P e.1.0) table
    → AllByRecursion P (map (λ (f : FileId). f.0) (map (λ (e : Interval × FileId). e.1) table))
numbers_there P [] all = tt
numbers_there P (e ∷ table) all = (all.0, numbers_there P table all.1)

-- what holds of each value that may be there
pub if_some_by : {A B : Type 0} (o : Option A) (f : A → B) (x : Option B) → option_map f o ≡ x → (P : B → Type 0) → ((b : B) → x ≡ Some b → P b) → IfSome o (λ a. P (f a))
if_some_by None f x e P h = tt
if_some_by (Some a) f x e P h = h (f a) (sym e)

-- and of what holds where none is there
pub if_none_by : {A B : Type 0} (o : Option A) (f : A → B) (x : Option B) → option_map f o ≡ x → (P : Type 0) → (x ≡ None → P) → IfNone o P
if_none_by None f x e P h = h (sym e)
if_none_by (Some a) f x e P h = tt

pub if_none_so : {A : Type 0} (o : Option A) (P : Type 0) → P → IfNone o P
if_none_so None P h = h
if_none_so (Some a) P h = tt
