-- What scans get of a change. Only the crate's private clauses cite it.
use Rattle.std.specs.Prelude.{◌≡◌, ℕ, ◌⊎◌, Bool, true, false, List, [], map, nat_eq}
use Rattle.std.specs.List.{IsDistinct}
use Rattle.std.specs.Option.{is_some, option_and_then}
use Rattle.ncq_source.specs.ChangeStates.{entries_at}
use Rattle.ncq_source.specs.StoreStates.{StoreState, found}
use Rattle.ncq_source.specs.declared.change.Entry.{Entry}
use Rattle.ncq_source.specs.declared.change.Portion.{Portion}
use Rattle.ncq_change.specs.Stores.{entries_in}
use Rattle.ncq_plan.specs.Totals.{SignedRow as PlainRow}
use Rattle.ncq_midfile.specs.declared.signed.SignedRow.{SignedRow}
use Rattle.ncq_shelf.specs.KeptFiles.{Files}
use Rattle.ncq_shelf.specs.Stands.{IsThere}
use Rattle.ncq_shelf.specs.Readers.{IsScanOf}
use Rattle.ncq_feed.specs.Runs.{Run, IsScanFile, news_in, is_among, AreRight}

-- signed rows of plans, with the number of a change
abbrev pub numbered : ℕ → List PlainRow → List SignedRow
numbered number rows = map (λ r. record { number = number; plus = r.plus; row = r.row }) rows

-- a scan got its rows of the change, and is pending if it got any
pub record IsScanFed (run : Run) (at : ℕ) (old_pending new_pending : List ℕ) (old new : Files)
    : Type 0 where
  pub own : AreRight run at (news_in run.store.changes new at)
  pub others : (other : ℕ) → (other ≡ at → ⊥)
      → news_in run.store.changes new other ≡ news_in run.store.changes old other
  pub quiet : (other : ℕ) → is_among other new_pending ≡ false
      → (is_among other old_pending ≡ false)
      × (other ≡ at → news_in run.store.changes new at ≡ [])
  pub noted : (other : ℕ) → is_among other new_pending ≡ true
      → (is_among other old_pending ≡ true) ⊎ (other ≡ at)

-- whether one of the portions is of the source of this name
abbrev pub is_asked : StoreState → List Portion → List ℕ → Bool
is_asked store portions name =
    is_some (option_and_then (λ at. entries_at at portions) (found store name))

-- the scans of the sources of these portions have their rows of the change, but for those that are
-- left; other files have none, and those that have rows are pending
pub record AreScansFed (run : Run) (portions : List Portion) (left pending : List ℕ) (files : Files)
    : Type 0 where
  pub given : (number : ℕ) (scan : IsScanFile run.files number)
      → is_asked run.store portions scan.source ≡ true → is_among number left ≡ false
      → AreRight run number (news_in run.store.changes files number)
  pub rest : (number : ℕ)
      → ((scan : IsScanFile run.files number) → is_asked run.store portions scan.source ≡ false)
      → news_in run.store.changes files number ≡ []
  pub quiet : (number : ℕ) → is_among number pending ≡ false
      → news_in run.store.changes files number ≡ []
  pub there : (number : ℕ) → is_among number pending ≡ true → IsThere run.files number

-- the files that are left are scans of the source of this name, each stands once, and none has rows
-- of the change yet
pub record AreLeft (run : Run) (name : List ℕ) (left : List ℕ) (files : Files) : Type 0 where
  pub once : IsDistinct nat_eq left
  pub scans : (number : ℕ) → is_among number left ≡ true → IsScanOf run.files name number
  pub still : (number : ℕ) → is_among number left ≡ true
      → news_in run.store.changes files number ≡ []

-- the file is a scan, and the entries are those of the change for its source
pub record IsScanWith (run : Run) (entries : List Entry) (at : ℕ) : Type 0 where
  pub name : List ℕ
  pub scan : IsScanOf run.files name at
  pub same : entries ≡ entries_in run.store run.change name
