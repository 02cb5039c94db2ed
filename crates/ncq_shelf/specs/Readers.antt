-- What reads a file of a shelf, and what it gets of a change.
use Rattle.std.specs.Prelude.{◌≡◌, ◌⊎◌, ◌↔◌, ℕ, ◌≤◌, Bool, true, false, List, [], filter, length}
use Rattle.std.specs.Prelude.{nat_eq}
use Rattle.std.specs.List.{list_any, AllByRecursion}
use Rattle.ncq_base.specs.declared.atom.Atom.{Atom}
use Rattle.ncq_base.specs.declared.interval.Interval.{Interval}
use Rattle.ncq_row.specs.declared.pair.Pair.{Pair}
use Rattle.ncq_row.specs.declared.shape.Shape.{Shape}
use Rattle.ncq_plan.specs.declared.expr.Expr.{Expr}
use Rattle.ncq_plan.specs.declared.expr.Expr.TheVariants.{Scan, EqSel, RangeSel, Join}
use Rattle.ncq_plan.specs.Meets.{has_atom, is_within, agree}
use Rattle.ncq_midfile.specs.Content.{since}
use Rattle.ncq_midfile.specs.declared.signed.SignedRow.{SignedRow}
use Rattle.ncq_split.specs.declared.parcel.Parcel.{Parcel}
use Rattle.ncq_readers.specs.Passed.{rows_to}
use Rattle.ncq_shelf.specs.Stands.{Files, Stands}

-- the number stands in the list
abbrev pub IsAmong : ℕ → List ℕ → Type 0
IsAmong number numbers = list_any (nat_eq number) numbers ≡ true

-- the file is that of a scan of the source
pub record IsScanOf (files : Files) (source : List ℕ) (number : ℕ) : Type 0 where
  pub shape : Shape
  pub stands : Stands files (Scan source shape) number

-- the numbers are those of the scans of the source
abbrev pub AreScansOf : Files → List ℕ → List ℕ → Type 0
AreScansOf files source numbers =
    (number : ℕ) → IsAmong number numbers ↔ IsScanOf files source number

-- the file has those rows of its input that pass the test
pub data SelectsFrom (files : Files) (number input : ℕ) : (SignedRow → Bool) → Type 0 where
  equal : (inner : Expr) (slot : ℕ) (constant : Atom)
      → Stands files (EqSel inner slot constant) number → Stands files inner input
      → SelectsFrom files number input (λ r. has_atom slot constant r.row)
  range : (inner : Expr) (slot : ℕ) (interval : Interval)
      → Stands files (RangeSel inner slot interval) number → Stands files inner input
      → SelectsFrom files number input (λ r. is_within slot interval r.row)

-- the file joins the files of its two sides
pub record JoinsFrom (files : Files) (number left right : ℕ) : Type 0 where
  pub first : Expr
  pub second : Expr
  pub pairs : List Pair
  pub stands : Stands files (Join first second pairs) number
  pub on_left : Stands files first left
  pub on_right : Stands files second right

-- the file joins this one, on either side
pub record IsJoinOver (files : Files) (input number : ℕ) : Type 0 where
  pub left : ℕ
  pub right : ℕ
  pub joins : JoinsFrom files number left right
  pub here : (left ≡ input) ⊎ (right ≡ input)

-- the numbers are those of the joins over the file
abbrev pub AreJoinsOver : Files → ℕ → List ℕ → Type 0
AreJoinsOver files input numbers =
    (number : ℕ) → IsAmong number numbers ↔ IsJoinOver files input number

-- no row of the left has the atoms of one of the right where the pairs compare them
abbrev pub NoneAgree : List Pair → List SignedRow → List SignedRow → Type 0
NoneAgree pairs lefts rights =
    AllByRecursion (λ left. AllByRecursion (λ right. agree pairs left.row right.row ≡ false) rights)
    lefts

-- the join makes nothing of the file's rows above a change: none of them agrees with a row that its
-- other side has, of whatever change and sign
pub record MakesNothing (files : Files) (input change number : ℕ) : Type 0 where
  pub on_left : (right : ℕ) (joins : JoinsFrom files number input right)
      → NoneAgree joins.pairs (since change joins.on_left.file.content.rows)
      joins.on_right.file.content.rows
  pub on_right : (left : ℕ) (joins : JoinsFrom files number left input)
      → NoneAgree joins.pairs joins.on_left.file.content.rows
      (since change joins.on_right.file.content.rows)

-- the numbers are those of joins over the file, and the other joins over it make nothing of its
-- rows above the change
pub record AreJoinsMet (files : Files) (input change : ℕ) (numbers : List ℕ) : Type 0 where
  pub joins : (number : ℕ) → IsAmong number numbers → IsJoinOver files input number
  pub others : (number : ℕ) → IsJoinOver files input number
      → list_any (nat_eq number) numbers ≡ false → MakesNothing files input change number

-- the file has those rows of its input whose slot has a constant's atom
pub data SelectsEqual (files : Files) (number input : ℕ) : (SignedRow → Bool) → Type 0 where
  equal : (inner : Expr) (slot : ℕ) (constant : Atom)
      → Stands files (EqSel inner slot constant) number → Stands files inner input
      → SelectsEqual files number input (λ r. has_atom slot constant r.row)

-- each selection by a constant over the file gets those of the rows that it takes, in their order,
-- and no other file gets any
pub record ArePassedOn (files : Files) (input : ℕ) (rows : List SignedRow) (parcels : List Parcel)
    : Type 0 where
  pub taken : (number : ℕ) (test : SignedRow → Bool) → SelectsEqual files number input test
      → rows_to number parcels ≡ filter test rows
  pub others : (number : ℕ)
      → ((test : SignedRow → Bool) → SelectsEqual files number input test → ⊥)
      → rows_to number parcels ≡ []

-- no selection by a constant over the file takes more of the rows than the bound of its number
abbrev pub AreBoundBy : Files → ℕ → List SignedRow → (ℕ → ℕ) → Type 0
AreBoundBy files input rows bound =
    (number : ℕ) (test : SignedRow → Bool) → SelectsEqual files number input test
    → length (filter test rows) ≤ bound number
