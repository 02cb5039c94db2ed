-- What a file passes on to the selections by intervals over it. Only the crate's private clauses
-- cite it.
use Rattle.std.specs.Prelude.{◌≡◌, ℕ, ◌⊎◌, cond, true, false, List, [], ◌++◌, nat_eq}
use Rattle.ncq_base.specs.declared.interval.Interval.{Interval}
use Rattle.ncq_plan.specs.Meets.{is_within}
use Rattle.ncq_midfile.specs.Views.{of_rows}
use Rattle.ncq_midfile.specs.declared.signed.SignedRow.{SignedRow}
use Rattle.ncq_shelf.specs.KeptFiles.{Files}
use Rattle.ncq_shelf.specs.Ranges.{IsHeldBy, SelectsRange}
use Rattle.ncq_feed.specs.Runs.{Run, news_in, is_among, IsFor}

-- the row is one of the file for the change, and some selection by an interval of the slot takes it
pub record IsHeldFor (run : Run) (at slot : ℕ) (row : SignedRow) : Type 0 where
  pub fits : IsFor run at row
  pub held : IsHeldBy run.files at slot row.row

-- these rows at one slot, and none at another
abbrev pub at_slot : ℕ → List SignedRow → ℕ → List SignedRow
at_slot slot rows other = cond (nat_eq slot other) rows []

-- the file selects by an interval of some slot of the other
pub record IsRangeOver (files : Files) (input number : ℕ) : Type 0 where
  pub slot : ℕ
  pub interval : Interval
  pub selects : SelectsRange files input slot interval number

-- each selection by an interval over the file got those of the rows at its slot that it takes, and
-- is pending if it got any; no other file got any
pub record AreShared (run : Run) (at : ℕ) (rows : ℕ → List SignedRow)
    (old_pending new_pending : List ℕ) (old new : Files) : Type 0 where
  pub taken : (slot : ℕ) (interval : Interval) (number : ℕ)
      → SelectsRange run.files at slot interval number
      → news_in run.store.changes new number ≡ news_in run.store.changes old number
      ++ of_rows (is_within slot interval) (rows slot)
  pub others : (number : ℕ) → (IsRangeOver run.files at number → ⊥)
      → news_in run.store.changes new number ≡ news_in run.store.changes old number
  pub quiet : (number : ℕ) → is_among number new_pending ≡ false
      → (is_among number old_pending ≡ false)
      × (news_in run.store.changes new number ≡ news_in run.store.changes old number)
  pub noted : (number : ℕ) → is_among number new_pending ≡ true
      → (is_among number old_pending ≡ true) ⊎ IsRangeOver run.files at number
