-- The signed rows of files as plans have them, and the contents that they lead from and to.
use Rattle.std.specs.Prelude.{ℕ, ◌≤◌, List, map}
use Rattle.std.specs.List.{AllByRecursion}
use Rattle.ncq_row.specs.Embeddings.{Row}
use Rattle.ncq_plan.specs.Totals.{SignedRow as PlainRow}
use Rattle.ncq_midfile.specs.Content.{IsContent}
use Rattle.ncq_midfile.specs.declared.signed.SignedRow.{SignedRow}

-- the signed rows without their numbers
abbrev pub unnumbered : List SignedRow → List PlainRow
unnumbered rows = map (λ r. record { plus = r.plus; row = r.row }) rows

-- the file has no row above the second number; its content at the first is the list before, and at
-- the second the list after
pub record HasContents (first second : ℕ) (rows : List SignedRow) (before after : List Row)
    : Type 0 where
  pub last : AllByRecursion (λ r. r.number ≤ second) rows
  pub content_before : IsContent first rows before
  pub content_after : IsContent second rows after
