-- That some file takes a row, as the intervals of its slot tell it.
use Rattle.std.proofs.Common.{◌≡◌, ℕ, ◌||◌, Bool, true, false, cond, List, [], ◌∷◌, Some, None, Option, nat_eq, refl, sym, ap, ◌∙◌, true≢false}
use Rattle.std.specs.Map.{lookup, keys_of}
use Rattle.std.specs.Option.{option_map, option_and_then}
use Rattle.ncq_base.specs.Intervals.{in_interval}
use Rattle.ncq_base.specs.declared.atom.Atom.{Atom}
use Rattle.ncq_base.specs.declared.atom.FileId.{FileId}
use Rattle.ncq_base.specs.declared.interval.Interval.{Interval}
use Rattle.ncq_consttab.specs.Ranges.{is_interval, is_held_by}
use Rattle.ncq_consttab.proofs.Intervals.{interval_is}
use Rattle.ncq_readers.proofs.KeyLaws.{interval_itself}
use Rattle.ncq_plan.specs.declared.expr.Expr.{Expr}
use Rattle.ncq_readers.specs.Readings.Reading.{range}
use Rattle.ncq_readers.specs.ReaderTables.{ReaderTables, IsReader}
use Rattle.ncq_row.specs.Embeddings.{Row}
use Rattle.ncq_row.specs.Values.{atom_at}
use Rattle.ncq_shelf.specs.Groups.{Groups}
use Rattle.ncq_shelf.specs.Ranges.{IsHeldBy}
use Rattle.ncq_shelf.specs.Shown.{shown}
use Rattle.ncq_shelf.specs.Wired.{IsShelved}
use Rattle.ncq_shelf.specs.declared.file.File.{File}
use Rattle.ncq_shelf.proofs.Consumers.{range_reader, reader_range}

abbrev pub Table : Type 0
Table = List (Interval × FileId)

pub any_found : (a : Atom) (table : Table) → is_held_by (keys_of table) a ≡ true → (interval : Interval) × (file : FileId) × (lookup (is_interval interval) table ≡ Some file) × (in_interval interval a ≡ true)
any_found a [] h = absurd (true≢false (sym h))
any_found a (e ∷ table) h = by (in_interval e.0 a) refl h (any_found a table)
  where
    itself : lookup (is_interval e.0) (e ∷ table) ≡ Some e.1
    itself = ap (λ b. cond b (Some e.1) (lookup (is_interval e.0) table)) (interval_itself e.0)

    later : (i : Interval) (f : FileId) → lookup (is_interval i) table ≡ Some f → in_interval i a ≡ true → (b : Bool) → is_interval i e.0 ≡ b
        → (interval : Interval) × (file : FileId) × (lookup (is_interval interval) (e ∷ table) ≡ Some file) × (in_interval interval a ≡ true)
    later i f at within true q = (i, e.1, ap (λ b. cond b (Some e.1) (lookup (is_interval i) table)) q, within)
    later i f at within false q = (i, f, ap (λ b. cond b (Some e.1) (lookup (is_interval i) table)) q ∙ at, within)

    by : (b : Bool) → in_interval e.0 a ≡ b → (b || is_held_by (keys_of table) a) ≡ true
        → (is_held_by (keys_of table) a ≡ true → (interval : Interval) × (file : FileId) × (lookup (is_interval interval) table ≡ Some file) × (in_interval interval a ≡ true))
        → (interval : Interval) × (file : FileId) × (lookup (is_interval interval) (e ∷ table) ≡ Some file) × (in_interval interval a ≡ true)
    by true q h rest = (e.0, e.1, itself, q)
    by false q h rest = let r = rest h in later r.0 r.1 r.2 r.3 (is_interval r.0 e.0) refl

pub any_held : (a : Atom) (table : Table) (interval : Interval) (file : FileId) → lookup (is_interval interval) table ≡ Some file → in_interval interval a ≡ true → is_held_by (keys_of table) a ≡ true
any_held a [] interval file found h = cc
any_held a (e ∷ table) interval file found h =
    elim (is_interval interval e.0) as (λ b. is_interval interval e.0 ≡ b → cond b (Some e.1) (lookup (is_interval interval) table) ≡ Some file → (in_interval e.0 a || is_held_by (keys_of table) a) ≡ true) [
      | true ↦ λ q f. ap (λ b. b || is_held_by (keys_of table) a) (ap (λ i. in_interval i a) (sym (interval_is interval e.0 q)) ∙ h)
      | false ↦ λ q f. ap (λ b. in_interval e.0 a || b) (any_held a table interval file f h) ∙ or_true (in_interval e.0 a)
    ] refl found
  where
    or_true : (b : Bool) → (b || true) ≡ true
    or_true true = refl
    or_true false = refl

module _ (gs : Groups) (files : List (ℕ × File)) (numbers : List (Expr × ℕ)) (scans : List (List ℕ × ReaderTables)) (shelved : IsShelved gs files numbers scans)
    (input : ℕ) (file : File) (at : lookup (nat_eq input) files ≡ Some file) (slot : ℕ) (row : Row) where
  pub held_there : (table : Table) → lookup (nat_eq slot) file.readers.ranges ≡ Some table → is_held_by (keys_of table) (atom_at row slot) ≡ true → IsHeldBy (shown gs files) input slot row
  held_there table found h =
      let f = any_found (atom_at row slot) table h in
      let reader : IsReader file.readers (range slot f.0) f.1.0 =
      ap (λ o. option_map (λ (x : FileId). x.0) (option_and_then (λ (t : Table). lookup (is_interval f.0) t) o)) found ∙ ap (option_map (λ (x : FileId). x.0)) f.2 in
      record { number = f.1.0; takes = record { interval = f.0; selects = reader_range gs files numbers scans shelved input file at f.1.0 slot f.0 reader; within = f.3 } }

  its_reader : (h : IsHeldBy (shown gs files) input slot row) (o : Option Table) → lookup (nat_eq slot) file.readers.ranges ≡ o
      → option_map (λ (x : FileId). x.0) (option_and_then (λ (t : Table). lookup (is_interval h.takes.interval) t) o) ≡ Some h.number
  its_reader h o found =
      sym (ap (λ o. option_map (λ (x : FileId). x.0) (option_and_then (λ (t : Table). lookup (is_interval h.takes.interval) t) o)) found)
      ∙ range_reader gs files numbers scans shelved input file at h.number slot h.takes.interval h.takes.selects

  none_read : (n : ℕ) → ◌≡◌ {A = Option ℕ} None (Some n) → ⊥
  none_read n h = cc

  pub told_there : (table : Table) → lookup (nat_eq slot) file.readers.ranges ≡ Some table → IsHeldBy (shown gs files) input slot row → is_held_by (keys_of table) (atom_at row slot) ≡ true
  told_there table found h = by (lookup (is_interval h.takes.interval) table) refl (its_reader h (Some table) found)
    where
      by : (o : Option FileId) → lookup (is_interval h.takes.interval) table ≡ o → option_map (λ (x : FileId). x.0) o ≡ Some h.number → is_held_by (keys_of table) (atom_at row slot) ≡ true
      by None e r = absurd (none_read h.number r)
      by (Some f) e r = any_held (atom_at row slot) table h.takes.interval f e h.takes.within

  pub none_held_there : lookup (nat_eq slot) file.readers.ranges ≡ None → IsHeldBy (shown gs files) input slot row → ⊥
  none_held_there none h = none_read h.number (its_reader h None none)
