-- A file of a shelf, as callers see it, and files by their numbers.
use Rattle.std.specs.Prelude.{◌≡◌, ℕ, Some, refl}
use Rattle.std.specs.Ordering.{nat_cmp}
use Rattle.std.specs.FinMap.{FinMap, code, get}
use Rattle.std.specs.Coded.{Coded, code_by, coded×, coded_ℕ}
use Rattle.ncq_plan.specs.declared.expr.Expr.{Expr}
use Rattle.ncq_plan.specs.contracts.expr.Expr.{the_row as expr_row}
use Rattle.ncq_midfile.specs.Files.{FileState, file_code}

-- whose rows a file has, how many uses it has, and its rows
pub record KeptFile : Type 0 where
  pub expr : Expr
  pub uses : ℕ
  pub content : FileState

-- how a file is written as a value
abbrev pub kept_code : Coded KeptFile
kept_code =
    code_by (Expr × (ℕ × FileState)) (coded× expr_row.coded (coded× coded_ℕ file_code))
    (λ f. (f.expr, (f.uses, f.content)))
    (λ p. record { expr = p.0; uses = p.1.0; content = p.1.1 }) (λ _. refl)

-- files by their numbers; the entries are the files by rising number
abbrev pub Files : Type 0
Files = FinMap nat_cmp KeptFile

abbrev pub files_code : Coded Files
files_code = code coded_ℕ kept_code

-- this holds of the file of the number, if it is there
abbrev pub AtFile : Files → ℕ → (KeptFile → Type 0) → Type 0
AtFile files number P = (file : KeptFile) → get files number ≡ Some file → P file

-- this holds of each number that a file has, and of the file
abbrev pub EachFile : Files → (ℕ → KeptFile → Type 0) → Type 0
EachFile files P = (number : ℕ) → AtFile files number (P number)
