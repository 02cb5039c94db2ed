-- A file as a reader of others, on its way in and out. Only the crate's private clauses cite it.
use Rattle.std.specs.Prelude.{◌≡◌, ◌⊎◌, ◌↔◌, ℕ, List, nat_eq, Some, None}
use Rattle.std.specs.Map.{lookup}
use Rattle.std.specs.Str.{bytes_eq}
use Rattle.ncq_base.specs.declared.atom.Atom.{Atom}
use Rattle.ncq_base.specs.declared.interval.Interval.{Interval}
use Rattle.ncq_row.specs.declared.shape.Shape.{Shape}
use Rattle.ncq_plan.specs.declared.expr.Expr.{Expr}
use Rattle.ncq_plan.specs.declared.expr.Expr.TheVariants.{Scan, EqSel, RangeSel}
use Rattle.ncq_readers.specs.Readings.{Reading}
use Rattle.ncq_readers.specs.Readings.Reading.{equal, range, joined}
use Rattle.ncq_readers.specs.ReaderTables.{ReaderTables, IsReader}
use Rattle.ncq_shelf.specs.Wired.{HasOthers, Reads}
use Rattle.ncq_shelf.specs.declared.file.File.{File}
use Rattle.ncq_shelf.specs.declared.inputs.Inputs.{Inputs}
use Rattle.ncq_shelf.specs.declared.inputs.Inputs.TheVariants.{Nothing, One, Two}

-- the numbers are those of the two inputs, which may be one
abbrev pub AreSidesOf : Inputs → ℕ → ℕ → Type 0
AreSidesOf Nothing left right = ⊥
AreSidesOf (One number) left right = (left ≡ number) × (right ≡ number)
AreSidesOf (Two one two) left right = (left ≡ one) × (right ≡ two)

-- a file has this number
pub record HasFile (files : List (ℕ × File)) (number : ℕ) : Type 0 where
  pub file : File
  pub at : lookup (nat_eq number) files ≡ Some file

-- each expression has one file at most
abbrev pub OneEach : List (ℕ × File) → Type 0
OneEach files =
    (first second : ℕ) (one two : File) → lookup (nat_eq first) files ≡ Some one
    → lookup (nat_eq second) files ≡ Some two → one.expr ≡ two.expr → first ≡ second

-- nothing reads as the whole expression would, and the number joins nothing
pub record IsUnread (files : List (ℕ × File)) (whole : Expr) (number : ℕ) : Type 0 where
  pub equals : (at : ℕ) (file : File) (slot : ℕ) (constant : Atom) (n : ℕ)
      → lookup (nat_eq at) files ≡ Some file → whole ≡ EqSel file.expr slot constant
      → IsReader file.readers (equal slot constant) n → ⊥
  pub ranges : (at : ℕ) (file : File) (slot : ℕ) (interval : Interval) (n : ℕ)
      → lookup (nat_eq at) files ≡ Some file → whole ≡ RangeSel file.expr slot interval
      → IsReader file.readers (range slot interval) n → ⊥
  pub joins : (at : ℕ) (file : File) → lookup (nat_eq at) files ≡ Some file
      → IsReader file.readers joined number → ⊥

-- each file that the whole expression reads has the number as such a reader
abbrev pub IsKnown : List (ℕ × File) → Expr → ℕ → Type 0
IsKnown files whole number =
    (at : ℕ) (file : File) (reading : Reading) → lookup (nat_eq at) files ≡ Some file
    → Reads file.expr reading whole → IsReader file.readers reading number

-- this reading at this file
abbrev pub is_at : ℕ → Reading → ℕ → Reading → Type 0
is_at number reading other way = (other ≡ number) × (way ≡ reading)

-- this reading at either of two files
abbrev pub is_at_either : ℕ → ℕ → Reading → ℕ → Reading → Type 0
is_at_either one two reading other way = is_at one reading other way ⊎ is_at two reading other way

-- the number is a reader more at these files, by these readings; all else is as before
pub record Enrolls (old : List (ℕ × File)) (reads : ℕ → Reading → Type 0) (number : ℕ)
    (new : List (ℕ × File)) : Type 0 where
  pub there : (at : ℕ) (file : File) → lookup (nat_eq at) old ≡ Some file
      → (next : File) × (lookup (nat_eq at) new ≡ Some next) × HasOthers file next
      × ((reading : Reading) (n : ℕ) → IsReader next.readers reading n
      ↔ (IsReader file.readers reading n ⊎ (reads at reading × (n ≡ number))))
  pub none : (at : ℕ) → lookup (nat_eq at) old ≡ None → lookup (nat_eq at) new ≡ None

-- the number is a reader no more at these files, by these readings; all else is as before
pub record Strikes (old : List (ℕ × File)) (reads : ℕ → Reading → Type 0) (number : ℕ)
    (new : List (ℕ × File)) : Type 0 where
  pub there : (at : ℕ) (file : File) → lookup (nat_eq at) old ≡ Some file
      → (next : File) × (lookup (nat_eq at) new ≡ Some next) × HasOthers file next
      × ((reading : Reading) (n : ℕ) → IsReader next.readers reading n
      ↔ (IsReader file.readers reading n × (reads at reading → n ≡ number → ⊥)))
  pub none : (at : ℕ) → lookup (nat_eq at) old ≡ None → lookup (nat_eq at) new ≡ None

-- the source's tables have the number
pub record IsScanIn (scans : List (List ℕ × ReaderTables)) (source : List ℕ) (number : ℕ)
    : Type 0 where
  pub tables : ReaderTables
  pub at : lookup (bytes_eq source) scans ≡ Some tables
  pub reader : IsReader tables joined number

-- the expression is a scan of the source
pub record ScansSource (source : List ℕ) (whole : Expr) : Type 0 where
  pub shape : Shape
  pub is : whole ≡ Scan source shape

-- the tables of these sources have the number too; all else is as before
abbrev pub GainsScan : List (List ℕ × ReaderTables) → (List ℕ → Type 0) → ℕ
    → List (List ℕ × ReaderTables) → Type 0
GainsScan old here number new =
    (source : List ℕ) (n : ℕ)
    → IsScanIn new source n ↔ (IsScanIn old source n ⊎ (here source × (n ≡ number)))

-- the tables of these sources have the number no more; all else is as before
abbrev pub LosesScan : List (List ℕ × ReaderTables) → (List ℕ → Type 0) → ℕ
    → List (List ℕ × ReaderTables) → Type 0
LosesScan old here number new =
    (source : List ℕ) (n : ℕ)
    → IsScanIn new source n ↔ (IsScanIn old source n × (here source → n ≡ number → ⊥))

-- the tables have the same scans
abbrev pub SameScans : List (List ℕ × ReaderTables) → List (List ℕ × ReaderTables) → Type 0
SameScans old new = (source : List ℕ) (n : ℕ) → IsScanIn new source n ↔ IsScanIn old source n
