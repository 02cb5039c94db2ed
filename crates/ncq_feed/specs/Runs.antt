-- A change on its way through the files. Only the crate's private clauses cite it.
use Rattle.std.specs.Prelude.{◌≡◌, ℕ, ◌+◌, ◌-◌, ◌<◌, ◌^◌, Bool, true, List, [], ◌++◌, length}
use Rattle.std.specs.Prelude.{nat_eq, nat_lt, cond, Option, Some, None}
use Rattle.std.specs.List.{AllByRecursion, list_any}
use Rattle.std.specs.Option.{option_map}
use Rattle.std.specs.FinMap.{get}
use Rattle.ncq_row.specs.declared.shape.Shape.{Shape}
use Rattle.ncq_row.specs.Embeddings.{Row}
use Rattle.ncq_source.specs.declared.change.Portion.{Portion}
use Rattle.ncq_source.specs.StoreStates.{StoreState}
use Rattle.ncq_plan.specs.declared.expr.Expr.TheVariants.{Scan}
use Rattle.ncq_plan.specs.Exprs.{expr_width}
use Rattle.ncq_plan.specs.Deltas.{join_delta as delta_of_join}
use Rattle.ncq_plan.specs.Totals.{SameChanges}
use Rattle.ncq_change.specs.Stores.{world_in}
use Rattle.ncq_midfile.specs.declared.signed.SignedRow.{SignedRow}
use Rattle.ncq_midfile.specs.Content.{since, IsContent}
use Rattle.ncq_delta.specs.Leads.{unnumbered}
use Rattle.ncq_shelf.specs.KeptFiles.{AtFile, Files, KeptFile}
use Rattle.ncq_shelf.specs.Stands.{Stands, IsThere}
use Rattle.ncq_shelf.specs.Contents.{AreWide, with_more, sum_over}
use Rattle.ncq_shelf.specs.Readers.{SelectsFrom, JoinsFrom, NoneAgree}
use Rattle.ncq_feed.specs.Feeds.{IsPreparedFrom, AreReady, delta_by, is_range, sum_below}
use Rattle.ncq_feed.specs.Feeds.{CountsHeld}
use Rattle.ncq_feed.specs.Passing.{Wiring, IsPassedTo}

-- a prepared change, the store from which it was prepared, and the files before it
pub record Run : Type 0 where
  pub store : StoreState
  pub change : List Portion
  pub files : Files

-- what the caller knew
pub record IsStarted (run : Run) : Type 0 where
  pub change : IsPreparedFrom run.store run.change
  pub more : run.store.changes < 2 ^ 64 - 1
  pub ready : AreReady run.store.changes (world_in run.store) run.files

-- the signed rows of a file above a change; where there is no file, none
abbrev pub news_of : ℕ → Option KeptFile → List SignedRow
news_of now None = []
news_of now (Some file) = since now file.content.rows

abbrev pub news_in : ℕ → Files → ℕ → List SignedRow
news_in now files number = news_of now (get files number)

-- the files are those before the change, each with signed rows of the change behind its own
pub record IsUnderWay (run : Run) (files : Files) : Type 0 where
  pub start : IsStarted run
  pub grown : (number : ℕ) → get files number
      ≡ option_map (λ file. with_more file (news_in run.store.changes files number))
      (get run.files number)
  pub stamped : (number : ℕ) → AllByRecursion (λ r. r.number ≡ run.store.changes + 1)
      (news_in run.store.changes files number)
  pub wide : AreWide files

-- whether the number is in the list
abbrev pub is_among : ℕ → List ℕ → Bool
is_among number numbers = list_any (nat_eq number) numbers

-- the signed row has the number of the change, and a value for each slot of the file's expression
pub record IsFor (run : Run) (number : ℕ) (row : SignedRow) : Type 0 where
  pub stamped : row.number ≡ run.store.changes + 1
  pub wide : AtFile run.files number (λ file. length row.row ≡ expr_width file.expr)

-- one file got these rows more, and no other got any
pub record IsGiven (run : Run) (number : ℕ) (rows : List SignedRow) (old new : Files)
    : Type 0 where
  pub own : news_in run.store.changes new number ≡ news_in run.store.changes old number ++ rows
  pub others : (other : ℕ) → (other ≡ number → ⊥)
      → news_in run.store.changes new other ≡ news_in run.store.changes old other

-- the signed rows are those that the change makes of the file's expression
abbrev pub AreRight : Run → ℕ → List SignedRow → Type 0
AreRight run number rows =
    AtFile run.files number (λ file.
    SameChanges (unnumbered rows) (delta_by run.store run.change file.expr))

-- the file is that of a scan
pub record IsScanFile (files : Files) (number : ℕ) : Type 0 where
  pub source : List ℕ
  pub shape : Shape
  pub stands : Stands files (Scan source shape) number

-- the rows are the changes of the join of its inputs, whose changes are given: the left's with the
-- right's content before, and the left's content after with the right's
abbrev pub JoinGetsFrom : Run → ℕ → List SignedRow → List SignedRow → List SignedRow → Type 0
JoinGetsFrom run number left_news right_news news =
    (left right : ℕ) (joins : JoinsFrom run.files number left right) (before after : List Row)
    → IsContent run.store.changes joins.on_right.file.content.rows before
    → IsContent (run.store.changes + 1) (joins.on_left.file.content.rows ++ left_news) after
    → SameChanges (unnumbered news)
    (delta_of_join joins.pairs (unnumbered left_news) before after (unnumbered right_news))

-- none of the rows agrees with one that the join's right had before the change
abbrev pub LeftMissesFrom : Run → ℕ → List SignedRow → Type 0
LeftMissesFrom run number left_news =
    (left right : ℕ) (joins : JoinsFrom run.files number left right)
    → NoneAgree joins.pairs left_news joins.on_right.file.content.rows

-- none of the rows agrees with one that the join's left had before the change
abbrev pub RightMissesFrom : Run → ℕ → List SignedRow → Type 0
RightMissesFrom run number right_news =
    (left right : ℕ) (joins : JoinsFrom run.files number left right)
    → NoneAgree joins.pairs joins.on_left.file.content.rows right_news

-- none of the first rows agrees with one of the second where the join compares them
abbrev pub BothMissFrom : Run → ℕ → List SignedRow → List SignedRow → Type 0
BothMissFrom run number left_news right_news =
    (left right : ℕ) (joins : JoinsFrom run.files number left right)
    → NoneAgree joins.pairs left_news right_news

-- the files before the change as scans, selections and joins
abbrev pub wiring_of : Run → Wiring SignedRow
wiring_of run = record {
  IsScan = IsScanFile run.files;
  ScanGets = AreRight run;
  Selects = SelectsFrom run.files;
  Joins = JoinsFrom run.files;
  JoinGets = JoinGetsFrom run;
  LeftMisses = LeftMissesFrom run;
  RightMisses = RightMissesFrom run;
  BothMiss = BothMissFrom run;
}

-- the change has been passed on to all files below the number, and files are pending
pub record ArePassed (run : Run) (next : ℕ) (pending : List ℕ) (files : Files) : Type 0 where
  pub passed : IsPassedTo (wiring_of run) next (λ number. is_among number pending)
      (news_in run.store.changes files)
  pub there : (number : ℕ) → is_among number pending ≡ true → IsThere run.files number

-- how many signed rows the change makes of a file's expression
abbrev pub due_of : Run → Option KeptFile → ℕ
due_of run None = 0
due_of run (Some file) = length (delta_by run.store run.change file.expr)

abbrev pub due : Run → ℕ → ℕ
due run number = due_of run (get run.files number)

-- how many a file has
abbrev pub count_in : Run → Files → ℕ → ℕ
count_in run files number = length (news_in run.store.changes files number)

-- how many all files are to have, and how many they have
abbrev pub all_due : Run → ℕ
all_due run = sum_over run.files (due run)

abbrev pub all_in : Run → Files → ℕ
all_in run files = sum_over run.files (count_in run files)

-- the same of all files but the selections by intervals
abbrev pub own_of : Option KeptFile → ℕ → ℕ
own_of None count = 0
own_of (Some file) count = cond (is_range file.expr) 0 count

abbrev pub own : Run → (ℕ → ℕ) → ℕ → ℕ
own run counts number = own_of (get run.files number) (counts number)

abbrev pub own_due : Run → ℕ
own_due run = sum_over run.files (own run (due run))

abbrev pub own_in : Run → Files → ℕ
own_in run files = sum_over run.files (own run (count_in run files))

-- the counts of held rows, for each file and slot
abbrev pub AreCounted : Run → (ℕ → ℕ → ℕ) → Type 0
AreCounted run held = CountsHeld run.store run.change run.files held

-- how many a file passes on to range groups, and how many all files below a number
abbrev pub groups_of : Option KeptFile → (ℕ → ℕ) → ℕ
groups_of None counts = 0
groups_of (Some file) counts = sum_below (expr_width file.expr) counts

abbrev pub groups : Run → (ℕ → ℕ → ℕ) → ℕ → ℕ
groups run held number = groups_of (get run.files number) (held number)

abbrev pub held_below : Run → (ℕ → ℕ → ℕ) → ℕ → ℕ
held_below run held next =
    sum_over run.files (λ number. cond (nat_lt number next) (groups run held number) 0)
