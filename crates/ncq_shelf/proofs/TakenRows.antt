-- The rows that the intervals of a slot hold are those that some file takes.
use Rattle.std.proofs.Common.{◌≡◌, ℕ, Bool, true, false, cond, List, [], ◌∷◌, Some, None, Option, nat_eq, refl, sym, ap, ◌∙◌, subst, true≢false}
use Rattle.std.specs.List.{AllByRecursion}
use Rattle.std.specs.Map.{lookup, keys_of}
use Rattle.std.specs.Option.{option_map, option_and_then}
use Rattle.ncq_base.specs.declared.atom.FileId.{FileId}
use Rattle.ncq_base.specs.declared.interval.Interval.{Interval}
use Rattle.ncq_consttab.specs.Ranges.{is_interval}
use Rattle.ncq_plan.specs.declared.expr.Expr.{Expr}
use Rattle.ncq_plan.specs.Meets.{is_within}
use Rattle.ncq_row.specs.Embeddings.{Row}
use Rattle.ncq_midfile.specs.Views.{is_held, of_rows}
use Rattle.ncq_midfile.specs.declared.signed.SignedRow.{SignedRow}
use Rattle.ncq_readers.specs.Passed.{AreTables, held_in, held_at}
use Rattle.ncq_readers.specs.ReaderTables.{ReaderTables}
use Rattle.ncq_readers.proofs.PassedLaws.{none_held, held_there}
use Rattle.ncq_shelf.specs.Groups.{Groups}
use Rattle.ncq_shelf.specs.KeptFiles.{Files}
use Rattle.ncq_shelf.specs.Ranges.{AreHeldOf, AreTaken, IsHeldBy, SelectsRange}
use Rattle.ncq_shelf.specs.Shown.{shown}
use Rattle.ncq_shelf.specs.Wired.{IsShelved}
use Rattle.ncq_shelf.specs.declared.file.File.{File}
use Rattle.ncq_shelf.proofs.Maps.{there}
use Rattle.ncq_shelf.proofs.HeldBy.{held_there as taken_there, told_there, none_held_there}

module _ (files : Files) (input slot : ℕ) where
  -- a test that tells who is taken picks the rows that are
  pub taken_by : (test : Row → Bool) → ((row : Row) → test row ≡ true → IsHeldBy files input slot row) → ((row : Row) → IsHeldBy files input slot row → test row ≡ true)
      → (rows : List SignedRow) → AreTaken files input slot rows (of_rows test rows)
  taken_by test is was [] = AreTaken.none
  taken_by test is was (r ∷ rows) = by (test r.row) refl (taken_by test is was rows)
    where
      by : (b : Bool) → test r.row ≡ b → AreTaken files input slot rows (of_rows test rows) → AreTaken files input slot (r ∷ rows) (cond b (r ∷ of_rows test rows) (of_rows test rows))
      by true e rest = AreTaken.taken (is r.row e) rest
      by false e rest = AreTaken.left (λ h. true≢false (sym (was r.row h) ∙ e)) rest

  -- where no row is taken none is left
  pub none_taken : ((row : Row) → IsHeldBy files input slot row → ⊥) → (rows : List SignedRow) → AreTaken files input slot rows []
  none_taken none [] = AreTaken.none
  none_taken none (r ∷ rows) = AreTaken.left (none r.row) (none_taken none rows)

  -- a row that no file takes is in no file's interval
  outside : (row : Row) → (IsHeldBy files input slot row → ⊥) → (interval : Interval) (number : ℕ) → SelectsRange files input slot interval number → is_within slot interval row ≡ false
  outside row none interval number selects = by (is_within slot interval row) refl
    where
      by : (b : Bool) → is_within slot interval row ≡ b → b ≡ false
      by true e = absurd (none (record { number = number; takes = record { interval = interval; selects = selects; within = e } }))
      by false e = refl

  -- each selection has of the rows that are taken what it has of all
  pub taken_within : {rows held : List SignedRow} → AreTaken files input slot rows held → (interval : Interval) (number : ℕ) → SelectsRange files input slot interval number
      → of_rows (is_within slot interval) held ≡ of_rows (is_within slot interval) rows
  taken_within AreTaken.none interval number selects = refl
  taken_within (AreTaken.taken {row = row} by rest) interval number selects = ap (λ rs. cond (is_within slot interval row.row) (row ∷ rs) rs) (taken_within rest interval number selects)
  taken_within (AreTaken.left {row = row} {rows = rows} none rest) interval number selects =
      taken_within rest interval number selects
      ∙ ap (λ b. cond b (row ∷ of_rows (is_within slot interval) rows) (of_rows (is_within slot interval) rows)) (sym (outside row.row none interval number selects))

  -- each of them is taken
  pub taken_each : {rows held : List SignedRow} → AreTaken files input slot rows held → AllByRecursion (λ r. IsHeldBy files input slot r.row) held
  taken_each AreTaken.none = tt
  taken_each (AreTaken.taken by rest) = (by, taken_each rest)
  taken_each (AreTaken.left none rest) = taken_each rest

  -- where no file selects so, none is
  pub taken_none : {rows held : List SignedRow} → AreTaken files input slot rows held → ((interval : Interval) (number : ℕ) → SelectsRange files input slot interval number → ⊥) → held ≡ []
  taken_none AreTaken.none nothing = refl
  taken_none (AreTaken.taken by rest) nothing = absurd (nothing by.takes.interval by.number by.takes.selects)
  taken_none (AreTaken.left none rest) nothing = taken_none rest nothing

module _ (gs : Groups) (files : List (ℕ × File)) (numbers : List (Expr × ℕ)) (scans : List (List ℕ × ReaderTables)) (shelved : IsShelved gs files numbers scans)
    (input : ℕ) (file : File) (at : lookup (nat_eq input) files ≡ Some file) (are : AreTables file.readers) (rows : List SignedRow) where
  -- what a file's tables hold of rows is what files take of them
  pub held_of : AreHeldOf (shown gs files) input rows (held_in file.readers rows)
  held_of slot = by (lookup (nat_eq slot) file.readers.ranges) refl
    where
      by : (o : Option (List (Interval × FileId))) → lookup (nat_eq slot) file.readers.ranges ≡ o → AreTaken (shown gs files) input slot rows (held_at slot (held_in file.readers rows))
      by None e = subst (AreTaken (shown gs files) input slot rows)
          (sym (none_held file.readers rows slot are (λ interval n is.
          there is (ap (λ o. option_map (λ (x : FileId). x.0) (option_and_then (λ (t : List (Interval × FileId)). lookup (is_interval interval) t) o)) e))))
          (none_taken (shown gs files) input slot (λ row. none_held_there gs files numbers scans shelved input file at slot row e) rows)
      by (Some table) e = subst (AreTaken (shown gs files) input slot rows) (sym (held_there file.readers rows slot are table e))
          (taken_by (shown gs files) input slot (is_held slot (keys_of table))
          (λ row h. taken_there gs files numbers scans shelved input file at slot row table e h)
          (λ row h. told_there gs files numbers scans shelved input file at slot row table e h) rows)
