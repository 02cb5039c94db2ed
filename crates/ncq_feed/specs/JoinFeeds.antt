-- What a join gets of a change. Only the crate's private clauses cite it.
use Rattle.std.specs.Prelude.{◌≡◌, ℕ, ◌+◌, List, [], ◌++◌, length}
use Rattle.std.specs.List.{AllByRecursion}
use Rattle.ncq_base.specs.Counts.{SameCounts}
use Rattle.ncq_row.specs.declared.pair.Pair.{Pair}
use Rattle.ncq_row.specs.Embeddings.{Row}
use Rattle.ncq_plan.specs.declared.expr.Expr.{Expr}
use Rattle.ncq_plan.specs.declared.expr.Expr.TheVariants.{Join}
use Rattle.ncq_plan.specs.Exprs.{expr_width}
use Rattle.ncq_midfile.specs.declared.signed.SignedRow.{SignedRow}
use Rattle.ncq_midfile.specs.Content.{IsContent}
use Rattle.ncq_delta.specs.Joins.{join_change}
use Rattle.ncq_shelf.specs.KeptFiles.{Files}
use Rattle.ncq_shelf.specs.Stands.{Stands}
use Rattle.ncq_shelf.specs.Readers.{JoinsFrom}
use Rattle.ncq_feed.specs.Runs.{Run, news_in, AreRight, JoinGetsFrom}

-- a join got what its inputs' rows make of it, where it had none of the change; a file that is no
-- join got nothing, nor did another file
pub record IsJoined (run : Run) (at : ℕ) (old new : Files) : Type 0 where
  pub own : ((left right : ℕ) → JoinsFrom run.files at left right → ⊥)
      → news_in run.store.changes new at ≡ news_in run.store.changes old at
  pub joined : (left right : ℕ) → JoinsFrom run.files at left right
      → news_in run.store.changes old at ≡ []
      → JoinGetsFrom run at (news_in run.store.changes old left)
      (news_in run.store.changes old right) (news_in run.store.changes new at)
  pub others : (other : ℕ) → (other ≡ at → ⊥)
      → news_in run.store.changes new other ≡ news_in run.store.changes old other

-- the content of a join's right side before the change, and that of its left side after it
pub record AreSidesKnown (run : Run) (at left right : ℕ) (joins : JoinsFrom run.files at left right)
    (files : Files) : Type 0 where
  pub before : List Row
  pub after : List Row
  pub content_before : IsContent run.store.changes joins.on_right.file.content.rows before
  pub content_after : IsContent (run.store.changes + 1)
      (joins.on_left.file.content.rows ++ news_in run.store.changes files left) after
  pub wide_before : AllByRecursion (λ row. length row ≡ expr_width joins.second) before
  pub wide_after : AllByRecursion (λ row. length row ≡ expr_width joins.first) after
  pub none : news_in run.store.changes files at ≡ []
  pub right_rows : (rows : List SignedRow)
      → SameCounts rows (join_change joins.pairs (news_in run.store.changes files left)
      before after (news_in run.store.changes files right))
      → AreRight run at rows

-- the contents of the sides are known, if the file is that of a join
abbrev pub AreKnown : Run → ℕ → Files → Type 0
AreKnown run at files =
    (left right : ℕ) (joins : JoinsFrom run.files at left right)
    → AreSidesKnown run at left right joins files

-- the file is that of a join
pub record IsJoinFile (files : Files) (number : ℕ) : Type 0 where
  pub first : Expr
  pub second : Expr
  pub pairs : List Pair
  pub stands : Stands files (Join first second pairs) number
