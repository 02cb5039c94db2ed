-- What is kept of what was told: entries, by what they were made of.
use Rattle.std.specs.Prelude.{◌≡◌, ◌<◌, ◌≤◌, ◌⊎◌, ℕ, List, [], Option, Some, None, IfSome, Contains}
use Rattle.std.specs.FinMap.{get}
use Rattle.std.specs.List.{AllByRecursion}
use Rattle.ncq_bag.specs.Bags.{difference}
use Rattle.ncq_bag.specs.declared.bag.Difference.{Difference}
use Rattle.ncq_book.specs.declared.subscription.Subscription.{Subscription as Kept}
use Rattle.ncq_cache.specs.Cached.{Cached}
use Rattle.ncq_cache.specs.declared.key.NoticeKey.{NoticeKey}
use Rattle.ncq_callback.specs.Gathered.{answer_of, answers}
use Rattle.ncq_group.specs.Tables.{TableState}
use Rattle.ncq_news.specs.News.{entries_of, since_mark}
use Rattle.ncq_plan.specs.declared.expr.Expr.{Expr}
use Rattle.ncq_plan.specs.declared.query.NormalQuery.{NormalQuery}
use Rattle.ncq_plan.specs.Exprs.{rows_in}
use Rattle.ncq_plan.specs.Relations.{Relations}
use Rattle.ncq_plan.specs.Residuals.{passes}
use Rattle.ncq_row.specs.Embeddings.{Row}
use Rattle.ncq_shelf.specs.KeptFiles.{KeptFile}
use Rattle.ncq_engine.specs.History.{History, changes, sources, up_to, world}

-- the canonical bytes of what is made of those rows that pass the checks
abbrev pub answers_by : Relations → NoticeKey → List Row → List (List ℕ)
answers_by relations key rows =
    answers (passes relations key.residual) (answer_of key.template) rows

-- the rows that an expression had at a change
abbrev pub rows_then : Expr → History → ℕ → List Row
rows_then expr history change = rows_in expr (world (sources (up_to change history)))

-- the answers at a mark; nothing before the first firing
abbrev pub answers_then
    : Relations → NoticeKey → Expr → History → Option ℕ → List (List ℕ)
answers_then relations key expr history None = []
answers_then relations key expr history (Some number) =
    answers_by relations key (rows_then expr history number)

-- the entries are what the answers from the rows of the file's expression gained and lost from the
-- mark to the change, where the file is live; both are changes of the history, and no file that is
-- to come gets the number
pub record IsToldRight (relations : Relations) (history : History) (table : TableState)
    (key : NoticeKey) (entries : List Difference) : Type 0 where
  pub given : key.file.0 < table.next_file
  pub change : key.change ≤ changes history
  pub mark : IfSome key.mark (λ number. number ≤ changes history)
  pub told : (file : KeptFile) → get table.files key.file.0 ≡ Some file
      → entries ≡ difference (answers_by relations key (rows_then file.expr history key.change))
      (answers_then relations key file.expr history key.mark)

-- each pair of the cache is told right
abbrev pub AreToldRight : Relations → History → TableState → List Cached → Type 0
AreToldRight relations history table cache =
    AllByRecursion (λ pair. IsToldRight relations history table pair.0 pair.1) cache

-- by what others find what a subscription is told since a mark, at a change. Only the crate's
-- private clauses cite this and what is below.
abbrev pub key_of : Kept → Option ℕ → ℕ → NoticeKey
key_of m mark change = record {
  file = m.file;
  residual = m.query.residual;
  template = m.query.template;
  mark = mark;
  change = change;
}

-- a query of no arms that asks what the key asks
abbrev pub query_by : NoticeKey → NormalQuery
query_by key = record { arms = []; residual = key.residual; template = key.template }

-- the entries are what the rows of the file tell now, since a mark that is not before its base
pub record IsFresh (relations : Relations) (table : TableState) (key : NoticeKey)
    (entries : List Difference) : Type 0 where
  pub given : key.file.0 < table.next_file
  pub change : key.change ≡ table.number
  pub mark : IfSome key.mark (λ number. number ≤ table.number)
  pub base : (file : KeptFile) → get table.files key.file.0 ≡ Some file
      → IfSome key.mark (λ number. file.content.base ≤ number)
  pub told : (file : KeptFile) → get table.files key.file.0 ≡ Some file
      → entries ≡ entries_of relations (query_by key) (since_mark key.mark file.content.rows)

-- the entries serve whoever asks for them: those of the change of now are fresh. Nobody asks for
-- those of an earlier change.
pub record Serves (relations : Relations) (table : TableState) (key : NoticeKey)
    (entries : List Difference) : Type 0 where
  pub given : key.file.0 < table.next_file
  pub change : key.change ≤ table.number
  pub fresh : key.change ≡ table.number → IsFresh relations table key entries

abbrev pub AllServe : Relations → TableState → List Cached → Type 0
AllServe relations table cache =
    AllByRecursion (λ pair. Serves relations table pair.0 pair.1) cache

-- each pair was there, or is fresh
abbrev pub Grows : Relations → TableState → List Cached → List Cached → Type 0
Grows relations table old new =
    AllByRecursion (λ pair. Contains old pair ⊎ IsFresh relations table pair.0 pair.1) new

-- a file of the number has the expression that it had among the old ones
abbrev pub IsOfOld : TableState → TableState → ℕ → Type 0
IsOfOld old new number =
    (file : KeptFile) → get new.files number ≡ Some file
    → (was : KeptFile) × (get old.files number ≡ Some was) × (file.expr ≡ was.expr)

-- each pair is fresh, or was there, and its file is the one that it was
abbrev pub KeepsPairs
    : Relations → TableState → List Cached → TableState → List Cached → Type 0
KeepsPairs relations old_table old table new =
    AllByRecursion (λ pair. IsFresh relations table pair.0 pair.1
    ⊎ (Contains old pair × IsOfOld old_table table pair.0.file.0)) new
