-- What is asked of a file whose rows are looked through. Only the crate's private clauses cite it.
use Rattle.std.specs.Prelude.{ℕ, ◌≤◌, List}
use Rattle.ncq_midfile.specs.Content.{IsSoundAt}
use Rattle.ncq_midfile.specs.Matching.{HaveSlots}
use Rattle.ncq_midfile.specs.Shown.{shown, rows_below}
use Rattle.ncq_midfile.specs.declared.view.View.{View}

-- the content of the file at this change can be told, and each row below it has the slots
pub record IsReady (now : ℕ) (slots : List ℕ) (file : View) : Type 0 where
  pub base : (shown file).base ≤ now
  pub sound : IsSoundAt now (shown file).rows
  pub within : HaveSlots slots (rows_below file)
