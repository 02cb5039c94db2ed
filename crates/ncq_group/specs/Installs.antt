-- What an install adds.
use Rattle.std.specs.Prelude.{◌≡◌, ◌≢◌, ℕ, ◌+◌, ◌<◌, ◌≤◌, List, length, Some}
use Rattle.std.specs.FinMap.{get}
use Rattle.ncq_base.specs.Counts.{total_by}
use Rattle.ncq_plan.specs.ExprLists.{IsIn}
use Rattle.ncq_plan.specs.declared.expr.Expr.{Expr}
use Rattle.ncq_plan.specs.Exprs.{World, operators, rows_in}
use Rattle.ncq_shelf.specs.Parts.{IsPart}
use Rattle.ncq_shelf.specs.KeptFiles.{AtFile, EachFile, Files, KeptFile}
use Rattle.ncq_shelf.specs.Stands.{Stands}
use Rattle.ncq_shelf.specs.Contents.{IsUpTo}
use Rattle.ncq_group.specs.Closure.{IsKept}
use Rattle.ncq_group.specs.Tables.{TableState}

-- a file for a part of the whole expression, made at the change of now
pub record IsFresh (whole : Expr) (now : ℕ) (file : KeptFile) : Type 0 where
  pub part : IsPart file.expr whole
  pub base : file.content.base ≡ now
  pub up_to : IsUpTo now file.content

-- one more use of the expression, and a file for each of its parts that had none; the new files
-- have the numbers from the old next number on
pub record IsInstalled (expr : Expr) (old new : TableState) (number : ℕ) : Type 0 where
  pub stands : Stands new.files expr number
  pub others : EachFile old.files (λ other file. other ≢ number → get new.files other ≡ Some file)
  pub gains : AtFile old.files number (λ file.
      get new.files number ≡ Some (record file { uses = file.uses + 1 }))
  pub before : EachFile new.files (λ other file.
      other < old.next_file → (state : KeptFile) × (get old.files other ≡ Some state))
  pub fresh : EachFile new.files (λ other file.
      old.next_file ≤ other → IsFresh expr old.number file)
  pub unused : EachFile new.files (λ other file.
      old.next_file ≤ other → other ≢ number → file.uses ≡ 0)
  pub first_use : AtFile new.files number (λ file. old.next_file ≤ number → file.uses ≡ 1)
  pub dense : (other : ℕ) → old.next_file ≤ other → other < new.next_file
      → (file : KeptFile) × (get new.files other ≡ Some file)
  pub order : old.next_file ≤ new.next_file
  pub room : new.next_file ≤ old.next_file + operators expr
  pub same : new.number ≡ old.number

-- the list names each part of the expression that has no file
abbrev pub NamesTheMissing : Files → Expr → List Expr → Type 0
NamesTheMissing files expr list =
    (part : Expr) → IsPart part expr → (IsKept files part → ⊥) → IsIn part list

-- how many rows the expressions of the list have, together
abbrev pub rows_of_all : World → List Expr → ℕ
rows_of_all world list = total_by (λ expr. length (rows_in expr world)) list
