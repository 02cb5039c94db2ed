-- What a shelf keeps of the readers of its files and of its scans. Only the crate's private clauses
-- cite it.
use Rattle.std.specs.Prelude.{◌≡◌, ◌⊎◌, ◌↔◌, ℕ, List, nat_eq, Some, None}
use Rattle.std.specs.Map.{lookup}
use Rattle.std.specs.Str.{bytes_eq}
use Rattle.ncq_row.specs.declared.pair.Pair.{Pair}
use Rattle.ncq_plan.specs.declared.expr.Expr.{Expr}
use Rattle.ncq_plan.specs.declared.expr.Expr.TheVariants.{EqSel, RangeSel, Join}
use Rattle.ncq_readers.specs.Readings.{Reading}
use Rattle.ncq_readers.specs.Readings.Reading.{equal, range, joined}
use Rattle.ncq_readers.specs.ReaderTables.{ReaderTables, IsReader}
use Rattle.ncq_shelf.specs.KeptFiles.{Files}
use Rattle.ncq_shelf.specs.Stands.{Stands}
use Rattle.ncq_shelf.specs.Readers.{IsScanOf}
use Rattle.ncq_shelf.specs.Indexed.{IsIndexed}
use Rattle.ncq_shelf.specs.Groups.{Groups}
use Rattle.ncq_shelf.specs.Shown.{shown}
use Rattle.ncq_shelf.specs.declared.file.File.{File}

-- the expression is a join, and the inner one is one of its sides
pub record IsSideOf (inner whole : Expr) : Type 0 where
  pub first : Expr
  pub second : Expr
  pub pairs : List Pair
  pub is : whole ≡ Join first second pairs
  pub side : (inner ≡ first) ⊎ (inner ≡ second)

-- the whole expression reads the inner one so
abbrev pub Reads : Expr → Reading → Expr → Type 0
Reads inner (equal slot constant) whole = whole ≡ EqSel inner slot constant
Reads inner (range slot interval) whole = whole ≡ RangeSel inner slot interval
Reads inner joined whole = IsSideOf inner whole

-- the file of this number reads the inner expression so
pub record ReadsSo (files : Files) (inner : Expr) (reading : Reading) (number : ℕ) : Type 0 where
  pub whole : Expr
  pub reads : Reads inner reading whole
  pub stands : Stands files whole number

-- the tables know exactly the files that read the expression
abbrev pub KnowsReaders : Files → ReaderTables → Expr → Type 0
KnowsReaders files tables inner =
    (reading : Reading) (number : ℕ)
    → IsReader tables reading number ↔ ReadsSo files inner reading number

-- the tables of a source know exactly its scans, and without tables it has none
pub record KnowsScans (files : Files) (scans : List (List ℕ × ReaderTables)) (source : List ℕ)
    : Type 0 where
  pub known : (tables : ReaderTables) → lookup (bytes_eq source) scans ≡ Some tables
      → (number : ℕ) → IsReader tables joined number ↔ IsScanOf files source number
  pub unknown : lookup (bytes_eq source) scans ≡ None
      → (number : ℕ) → IsScanOf files source number → ⊥

-- each file knows its readers, and each source its scans
pub record IsWired (groups : Groups) (files : List (ℕ × File))
    (sources : List (List ℕ × ReaderTables)) : Type 0 where
  pub readers : (number : ℕ) (file : File) → lookup (nat_eq number) files ≡ Some file
      → KnowsReaders (shown groups files) file.readers file.expr
  pub scans : (source : List ℕ) → KnowsScans (shown groups files) sources source

-- the files are found, and know their readers and their scans
pub record IsShelved (groups : Groups) (files : List (ℕ × File)) (numbers : List (Expr × ℕ))
    (scans : List (List ℕ × ReaderTables)) : Type 0 where
  pub indexed : IsIndexed groups files numbers
  pub wired : IsWired groups files scans

-- the second file differs from the first in its readers at most
pub record HasOthers (old new : File) : Type 0 where
  pub expr : new.expr ≡ old.expr
  pub uses : new.uses ≡ old.uses
  pub content : new.content ≡ old.content
  pub inputs : new.inputs ≡ old.inputs
  pub rows_lost : new.rows_lost ≡ old.rows_lost

-- each file that the whole expression reads has the file of this number as a reader more; all else
-- is as before
pub record IsEnrolled (old : List (ℕ × File)) (whole : Expr) (number : ℕ) (new : List (ℕ × File))
    : Type 0 where
  pub there : (at : ℕ) (file : File) → lookup (nat_eq at) old ≡ Some file
      → (next : File) × (lookup (nat_eq at) new ≡ Some next) × HasOthers file next
      × ((reading : Reading) (n : ℕ) → IsReader next.readers reading n
      ↔ (IsReader file.readers reading n ⊎ (Reads file.expr reading whole × (n ≡ number))))
  pub none : (at : ℕ) → lookup (nat_eq at) old ≡ None → lookup (nat_eq at) new ≡ None

-- each file that the whole expression reads has the file of this number as a reader no more; all
-- else is as before
pub record IsStruck (old : List (ℕ × File)) (whole : Expr) (number : ℕ) (new : List (ℕ × File))
    : Type 0 where
  pub there : (at : ℕ) (file : File) → lookup (nat_eq at) old ≡ Some file
      → (next : File) × (lookup (nat_eq at) new ≡ Some next) × HasOthers file next
      × ((reading : Reading) (n : ℕ) → IsReader next.readers reading n
      ↔ (IsReader file.readers reading n × (Reads file.expr reading whole → n ≡ number → ⊥)))
  pub none : (at : ℕ) → lookup (nat_eq at) old ≡ None → lookup (nat_eq at) new ≡ None

-- each file differs in its readers at most, and has the same
pub record AreAlike (old new : List (ℕ × File)) : Type 0 where
  pub there : (at : ℕ) (file : File) → lookup (nat_eq at) old ≡ Some file
      → (next : File) × (lookup (nat_eq at) new ≡ Some next) × HasOthers file next
      × ((reading : Reading) (n : ℕ)
      → IsReader next.readers reading n ↔ IsReader file.readers reading n)
  pub none : (at : ℕ) → lookup (nat_eq at) old ≡ None → lookup (nat_eq at) new ≡ None
