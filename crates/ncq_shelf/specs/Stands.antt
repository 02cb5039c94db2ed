-- What files say of each other.
use Rattle.std.specs.Prelude.{◌≡◌, ℕ, ◌<◌, Bool, true, false, Option, Some, None}
use Rattle.std.specs.FinMap.{get}
use Rattle.ncq_plan.specs.declared.expr.Expr.{Expr}
use Rattle.ncq_shelf.specs.Parts.{IsInput}
use Rattle.ncq_shelf.specs.KeptFiles.{AtFile}
pub use Rattle.ncq_shelf.specs.KeptFiles.{KeptFile, Files}

-- the file of this number is that of the expression
pub record Stands (files : Files) (expr : Expr) (number : ℕ) : Type 0 where
  pub file : KeptFile
  pub at : get files number ≡ Some file
  pub of : file.expr ≡ expr

-- a file has this number
pub record IsThere (files : Files) (number : ℕ) : Type 0 where
  pub file : KeptFile
  pub at : get files number ≡ Some file

-- some file reads the expression
pub record IsReadIn (files : Files) (expr : Expr) : Type 0 where
  pub reader : ℕ
  pub file : KeptFile
  pub at : get files reader ≡ Some file
  pub reads : IsInput expr file.expr

-- what a look-up for the file of an expression answers
abbrev pub Finds : Files → Expr → Option ℕ → Type 0
Finds files expr (Some number) = Stands files expr number
Finds files expr None = (number : ℕ) → Stands files expr number → ⊥

-- the file is there, has no use, and no file reads it
pub record IsIdle (files : Files) (number : ℕ) : Type 0 where
  pub file : KeptFile
  pub at : get files number ≡ Some file
  pub unused : file.uses ≡ 0
  pub unread : IsReadIn files file.expr → ⊥

-- what a look at a file answers: it is idle, or it has a use or is read
abbrev pub TellsIdle : Files → ℕ → Bool → Type 0
TellsIdle files number true = IsIdle files number
TellsIdle files number false =
    AtFile files number (λ file. file.uses ≡ 0 → IsReadIn files file.expr)

-- what a look at a file answers: some file reads it, or none does
abbrev pub TellsRead : Files → ℕ → Bool → Type 0
TellsRead files number true = AtFile files number (λ file. IsReadIn files file.expr)
TellsRead files number false = AtFile files number (λ file. IsReadIn files file.expr → ⊥)

-- each expression has one file at most, and the inputs of a file are files of smaller number
pub record IsGrounded (files : Files) : Type 0 where
  pub distinct : (first second : ℕ) (expr : Expr)
      → Stands files expr first → Stands files expr second → first ≡ second
  pub inputs : (number : ℕ) (file : KeptFile) (input : Expr)
      → get files number ≡ Some file → IsInput input file.expr
      → (below : ℕ) × (below < number) × Stands files input below
