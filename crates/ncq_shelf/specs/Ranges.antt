-- Files of selections by intervals: those of one slot of one input share the rows that they hold.
use Rattle.std.specs.Prelude.{◌≡◌, ℕ, true, List, [], ◌∷◌}
use Rattle.std.specs.FinMap.{get}
use Rattle.std.specs.List.{AllByRecursion}
use Rattle.std.specs.Option.{option_map}
use Rattle.ncq_base.specs.Intervals.{in_interval}
use Rattle.ncq_base.specs.declared.atom.Atom.{Atom}
use Rattle.ncq_base.specs.declared.interval.Interval.{Interval}
use Rattle.ncq_row.specs.Embeddings.{Row}
use Rattle.ncq_plan.specs.declared.expr.Expr.{Expr}
use Rattle.ncq_plan.specs.declared.expr.Expr.TheVariants.{RangeSel}
use Rattle.ncq_plan.specs.Meets.{is_within}
use Rattle.ncq_midfile.specs.Views.{RangeState, of_rows}
use Rattle.ncq_midfile.specs.declared.signed.SignedRow.{SignedRow}
use Rattle.ncq_readers.specs.Passed.{held_at}
use Rattle.ncq_readers.specs.declared.ranges.HeldRows.{HeldRows}
use Rattle.ncq_shelf.specs.Contents.{with_more}
use Rattle.ncq_shelf.specs.KeptFiles.{AtFile, Files}
use Rattle.ncq_shelf.specs.Stands.{Stands}

-- the expression selects by an interval
pub record IsRange (whole : Expr) : Type 0 where
  pub inner : Expr
  pub slot : ℕ
  pub interval : Interval
  pub is : whole ≡ RangeSel inner slot interval

-- no file of this number selects by an interval
abbrev pub IsNoRange : Files → ℕ → Type 0
IsNoRange files number = AtFile files number (λ file. IsRange file.expr → ⊥)

-- the file selects by this interval of the slot of the input
pub record SelectsRange (files : Files) (input slot : ℕ) (interval : Interval) (number : ℕ)
    : Type 0 where
  pub inner : Expr
  pub stands : Stands files (RangeSel inner slot interval) number
  pub over : Stands files inner input

-- the file takes the row, as one that selects by an interval of the slot of the input
pub record Takes (files : Files) (input slot : ℕ) (row : Row) (number : ℕ) : Type 0 where
  pub interval : Interval
  pub selects : SelectsRange files input slot interval number
  pub within : is_within slot interval row ≡ true

-- the same of a value
pub record TakesValue (files : Files) (input slot : ℕ) (value : Atom) (number : ℕ) : Type 0 where
  pub interval : Interval
  pub selects : SelectsRange files input slot interval number
  pub within : in_interval interval value ≡ true

-- some file takes the row
pub record IsHeldBy (files : Files) (input slot : ℕ) (row : Row) : Type 0 where
  pub number : ℕ
  pub takes : Takes files input slot row number

-- each file that takes the row has it behind its own, and all other files are as before
pub record AppendsHeld (old : Files) (input slot : ℕ) (row : SignedRow) (new : Files) : Type 0 where
  pub taken : (number : ℕ) → Takes old input slot row.row number
      → get new number ≡ option_map (λ file. with_more file (row ∷ [])) (get old number)
  pub others : (number : ℕ) → (Takes old input slot row.row number → ⊥)
      → get new number ≡ get old number

-- of the rows, in their order, those that some selection by an interval of the slot takes
pub data AreTaken (files : Files) (input slot : ℕ) : List SignedRow → List SignedRow → Type 0 where
  none : AreTaken files input slot [] []
  taken : {row : SignedRow} {rows held : List SignedRow} → IsHeldBy files input slot row.row
      → AreTaken files input slot rows held → AreTaken files input slot (row ∷ rows) (row ∷ held)
  left : {row : SignedRow} {rows held : List SignedRow}
      → (IsHeldBy files input slot row.row → ⊥)
      → AreTaken files input slot rows held → AreTaken files input slot (row ∷ rows) held

-- at each slot those of the rows are held that some selection by an interval of it takes, each once
abbrev pub AreHeldOf : Files → ℕ → List SignedRow → List HeldRows → Type 0
AreHeldOf files input rows held = (slot : ℕ) → AreTaken files input slot rows (held_at slot held)

-- each selection by an interval of the slot has of the held rows what it has of all
abbrev pub HaveTheirRows : Files → ℕ → ℕ → List SignedRow → List SignedRow → Type 0
HaveTheirRows files input slot rows held =
    (interval : Interval) (number : ℕ) → SelectsRange files input slot interval number
    → of_rows (is_within slot interval) held ≡ of_rows (is_within slot interval) rows

-- each of the rows is taken by some selection by an interval of the slot
abbrev pub AllAreHeld : Files → ℕ → ℕ → List SignedRow → Type 0
AllAreHeld files input slot rows = AllByRecursion (λ r. IsHeldBy files input slot r.row) rows

-- no file selects by an interval of the slot
abbrev pub NoneSelects : Files → ℕ → ℕ → Type 0
NoneSelects files input slot =
    (interval : Interval) (number : ℕ) → SelectsRange files input slot interval number → ⊥

-- the rows of the range file are those that the selections by intervals of the slot of the input
-- share: each has of them exactly what its interval has, and each of them is taken by one
pub record IsRangeFile (files : Files) (input at : ℕ) (range : RangeState) : Type 0 where
  pub slot : range.slot ≡ at
  pub shared : (interval : Interval) (number : ℕ) → SelectsRange files input at interval number
      → AtFile files number (λ file. file.content.rows ≡ of_rows (is_within at interval) range.rows)
  pub taken : AllByRecursion (λ r. IsHeldBy files input at r.row) range.rows

-- all selections by intervals are virtual files: those of one slot of one input share the rows of
-- one range file
abbrev pub ShareRows : Files → Type 0
ShareRows files = (input slot : ℕ) → (range : RangeState) × IsRangeFile files input slot range
