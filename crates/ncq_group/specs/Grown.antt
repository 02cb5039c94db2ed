-- Files that were added for parts of an expression. Only the crate's private clauses cite it.
use Rattle.std.specs.Prelude.{◌≡◌, ◌≢◌, ◌⊎◌, ℕ, ◌+◌, ◌<◌, ◌≤◌, List, length, Some, None}
use Rattle.std.specs.FinMap.{get, insert}
use Rattle.std.specs.List.{AllByRecursion}
use Rattle.ncq_plan.specs.ExprLists.{AreApart}
use Rattle.ncq_plan.specs.declared.expr.Expr.{Expr}
use Rattle.ncq_plan.specs.Exprs.{World, expr_width, operators, rows_in}
use Rattle.ncq_midfile.specs.Content.{IsContent}
use Rattle.ncq_midfile.specs.Files.{FileState}
use Rattle.ncq_shelf.specs.Parts.{IsPart}
use Rattle.ncq_shelf.specs.KeptFiles.{AtFile, EachFile, Files, KeptFile}
use Rattle.ncq_shelf.specs.Stands.{IsReadIn, IsGrounded}
use Rattle.ncq_shelf.specs.Contents.{IsUpTo}
use Rattle.ncq_feed.specs.Feeds.{AreReady}
use Rattle.ncq_group.specs.Closure.{IsKept}
use Rattle.ncq_group.specs.Installs.{IsFresh, rows_of_all}
use Rattle.ncq_group.specs.declared.filed.Filed.{Filed}

-- files were added for parts of the whole expression, with the numbers from low to below high, and
-- all others are as before
pub record IsGrown (whole : Expr) (now : ℕ) (world : World) (old : Files) (low : ℕ) (new : Files)
    (high : ℕ) : Type 0 where
  pub ready : AreReady now world new
  pub stays : EachFile old (λ number file. get new number ≡ Some file)
  pub before : EachFile new (λ number file. number < low → get old number ≡ Some file)
  pub fresh : EachFile new (λ number file.
      low ≤ number → (file.uses ≡ 0) × IsFresh whole now file)
  pub below : EachFile new (λ number file. number < high)
  pub dense : (number : ℕ) → low ≤ number → number < high
      → (file : KeptFile) × (get new number ≡ Some file)
  pub order : low ≤ high
  pub room : high ≤ low + operators whole

-- the new files that no file reads are those of such expressions
abbrev pub OnlyUnread : (Expr → Type 0) → ℕ → Files → Type 0
OnlyUnread Such low new =
    EachFile new (λ number file. low ≤ number → Such file.expr ⊎ IsReadIn new file.expr)

-- the rows of these parts of the expression were made, none of which had a file
pub record HasMade (whole : Expr) (world : World) (old : Files) (made : List Expr)
    (before after : ℕ) : Type 0 where
  pub apart : AreApart made
  pub parts : AllByRecursion (λ part. IsPart part whole) made
  pub unknown : AllByRecursion (λ part. IsKept old part → ⊥) made
  pub cost : after ≤ before + rows_of_all world made

-- a file for the expression, without a use
abbrev pub new_file : Expr → FileState → KeptFile
new_file expr content = record { expr = expr; uses = 0; content = content }

-- there is one more file, made at the change of now, with the rows of its expression over the world
pub record IsAdded (old : Files) (number : ℕ) (expr : Expr) (now : ℕ) (world : World)
    (new : Files) : Type 0 where
  pub content : FileState
  pub files : new ≡ insert old number (new_file expr content)
  pub base : content.base ≡ now
  pub up_to : IsUpTo now content
  pub wide : AllByRecursion (λ r. length r.row ≡ expr_width expr) content.rows
  pub holds : IsContent now content.rows (rows_in expr world)

-- the shelf has one more file, under the number that was next
pub record IsPut (old : Filed) (at : ℕ) (expr : Expr) (now : ℕ) (world : World) (new : Filed)
    : Type 0 where
  pub number : at ≡ old.next
  pub next : new.next ≡ old.next + 1
  pub added : IsAdded old.shelf old.next expr now world new.shelf

-- the files below the number are as before, and there are no others
pub record IsCut (old : Files) (low : ℕ) (new : Files) : Type 0 where
  pub kept : (number : ℕ) → number < low → get new number ≡ get old number
  pub gone : (number : ℕ) → low ≤ number → get new number ≡ None

-- the file is gone where nothing needs it, and all others are as before
pub record IsDropped (old : Files) (number : ℕ) (new : Files) : Type 0 where
  pub grounded : IsGrounded new
  pub others : (other : ℕ) → other ≢ number → get new other ≡ get old other
  pub here : AtFile new number (λ file. get old number ≡ Some file)
  pub read : AtFile new number (λ file. file.uses ≡ 0 → IsReadIn new file.expr)
