-- Which files are needed, and the law that a table keeps exactly these.
use Rattle.std.specs.Prelude.{◌≡◌, ◌↔◌, ℕ, ◌<◌, Some}
use Rattle.std.specs.FinMap.{get}
use Rattle.ncq_plan.specs.declared.expr.Expr.{Expr}
use Rattle.ncq_shelf.specs.Parts.{IsInput, IsPart}
use Rattle.ncq_shelf.specs.KeptFiles.{KeptFile, Files}
use Rattle.ncq_shelf.specs.Stands.{Stands}
use Rattle.ncq_group.specs.Tables.{TableState, Facts}

-- a file has a use, or a needed file reads it
pub data IsNeeded (files : Files) : ℕ → Type 0 where
  used : {number : ℕ} {file : KeptFile} → get files number ≡ Some file → 0 < file.uses
      → IsNeeded files number
  read : {number reader : ℕ} {file by : KeptFile} → get files reader ≡ Some by
      → IsNeeded files reader → get files number ≡ Some file → IsInput file.expr by.expr
      → IsNeeded files number

-- the expression is a part of one that is used
pub record IsLive (files : Files) (expr : Expr) : Type 0 where
  pub number : ℕ
  pub file : KeptFile
  pub at : get files number ≡ Some file
  pub used : 0 < file.uses
  pub part : IsPart expr file.expr

-- the expression has a file
abbrev pub IsKept : Files → Expr → Type 0
IsKept files expr = (number : ℕ) × Stands files expr number

-- the files of a table are those of the parts of the expressions that are used, one each
abbrev pub KeepsTheLive : Type 0
KeepsTheLive = (table : TableState) → Facts table
    → ((expr : Expr) → IsKept table.files expr ↔ IsLive table.files expr)
    × ((expr : Expr) (first second : ℕ) → Stands table.files expr first
    → Stands table.files expr second → first ≡ second)
