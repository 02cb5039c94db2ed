-- The rows of files: against the sources, by a change, and in all.
use Rattle.std.specs.Prelude.{◌≡◌, ◌⊎◌, ℕ, ◌≤◌, List, ◌++◌, length, Some, None}
use Rattle.std.specs.List.{AllByRecursion}
use Rattle.std.specs.FinMap.{entries, get}
use Rattle.ncq_base.specs.Counts.{total_by}
use Rattle.ncq_row.specs.Embeddings.{Row}
use Rattle.ncq_plan.specs.declared.expr.Expr.{Expr}
use Rattle.ncq_plan.specs.Exprs.{World, rows_in, expr_width}
use Rattle.ncq_plan.specs.WellFormed.{IsWellFormedExpr}
use Rattle.ncq_midfile.specs.Content.{IsContent, since, up_to}
use Rattle.ncq_midfile.specs.Files.{FileState}
use Rattle.ncq_midfile.specs.declared.signed.SignedRow.{SignedRow}
use Rattle.ncq_shelf.specs.KeptFiles.{EachFile, Files, KeptFile}

-- the expression of each file is well formed
abbrev pub AreFormed : Files → Type 0
AreFormed files =
    EachFile files (λ number file. IsWellFormedExpr file.expr)

-- each row of the file has a value for each slot of its expression, and so in each file
abbrev pub IsWide : KeptFile → Type 0
IsWide file = AllByRecursion (λ r. length r.row ≡ expr_width file.expr) file.content.rows

abbrev pub AreWide : Files → Type 0
AreWide files = EachFile files (λ number file. IsWide file)

-- the file was made at this change or before, and has no row of a later one; so in each file
pub record IsUpTo (now : ℕ) (content : FileState) : Type 0 where
  pub base : content.base ≤ now
  pub last : AllByRecursion (λ r. r.number ≤ now) content.rows

abbrev pub AreUpTo : ℕ → Files → Type 0
AreUpTo now files =
    EachFile files (λ number file. IsUpTo now file.content)

-- each file has, at this change, the rows of its expression over the world
abbrev pub Fits : ℕ → World → Files → Type 0
Fits now world files =
    EachFile files (λ number file. IsContent now file.content.rows (rows_in file.expr world))

-- a file of the expression without a use, with the change as its base
pub record IsNewAt (now : ℕ) (whole : Expr) (file : KeptFile) : Type 0 where
  pub expr : file.expr ≡ whole
  pub uses : file.uses ≡ 0
  pub base : file.content.base ≡ now
  pub up_to : IsUpTo now file.content
  pub wide : IsWide file

-- the sum of f over the numbers of the files
abbrev pub sum_over : Files → (ℕ → ℕ) → ℕ
sum_over files f = total_by (λ entry. f entry.0) (entries files)

-- the file with these rows
abbrev pub with_rows : List SignedRow → KeptFile → KeptFile
with_rows rows file = record file { content = record { base = file.content.base; rows = rows } }

-- the file with more rows behind its own
abbrev pub with_more : KeptFile → List SignedRow → KeptFile
with_more file more = with_rows (file.content.rows ++ more) file

-- the file without its rows of later changes
abbrev pub cut_to : ℕ → KeptFile → KeptFile
cut_to n file = with_rows (up_to n file.content.rows) file

-- the file after its base was made n: its rows above n stay, and what was its content at a change
-- from n on is so still
pub record IsCompacted (n : ℕ) (old new : KeptFile) : Type 0 where
  pub expr : new.expr ≡ old.expr
  pub uses : new.uses ≡ old.uses
  pub base : new.content.base ≡ n
  pub later : since n new.content.rows ≡ since n old.content.rows
  pub stays : (at : ℕ) (list : List Row) → n ≤ at → IsContent at old.content.rows list
      → IsContent at new.content.rows list

-- the file after its base was made n, or stayed: it keeps its rows
pub record IsRaised (n : ℕ) (old new : KeptFile) : Type 0 where
  pub expr : new.expr ≡ old.expr
  pub uses : new.uses ≡ old.uses
  pub rows : new.content.rows ≡ old.content.rows
  pub base : (new.content.base ≡ old.content.base) ⊎ (new.content.base ≡ n)

-- the file after some of its rows went, none above its base: what was its content at a change from
-- the base on is so still, and no signed row stands more often than before
pub record KeepsContents (old new : KeptFile) : Type 0 where
  pub expr : new.expr ≡ old.expr
  pub uses : new.uses ≡ old.uses
  pub base : new.content.base ≡ old.content.base
  pub later : since old.content.base new.content.rows ≡ since old.content.base old.content.rows
  pub stays : (at : ℕ) (list : List Row) → old.content.base ≤ at
      → IsContent at old.content.rows list → IsContent at new.content.rows list
  pub fewer : (f : SignedRow → ℕ) → total_by f new.content.rows ≤ total_by f old.content.rows

-- each file is there after some of its rows went, none above its base, and no other file is there
pub record AreFolded (old new : Files) : Type 0 where
  pub each : EachFile old (λ number file.
      (kept : KeptFile) × (get new number ≡ Some kept) × KeepsContents file kept)
  pub only : (number : ℕ) → get old number ≡ None → get new number ≡ None
