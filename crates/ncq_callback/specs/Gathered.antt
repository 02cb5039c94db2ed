-- What is counted of rows that come and go: the answer of each row that passes its checks.
use Rattle.std.specs.Prelude.{ℕ, ℤ, Bool, if◌then◌else◌, List, [], ◌∷◌, map}
use Rattle.std.specs.List.{filter}
use Rattle.ncq_base.specs.Keys.{ByBytes}
use Rattle.ncq_bag.specs.Bags.{added}
use Rattle.ncq_pyx.specs.Canonical.{pyx}
use Rattle.ncq_row.specs.Embeddings.{Row}
use Rattle.ncq_plan.specs.declared.template.SlotTemplate.{SlotTemplate}
use Rattle.ncq_plan.specs.Templates.{constructed}
use Rattle.ncq_plan.specs.Totals.{SignedRow}

-- the canonical bytes of what the template makes of the row
abbrev pub answer_of : SlotTemplate → Row → List ℕ
answer_of template row = pyx (constructed template row)

-- the bytes of each row that passes the test
abbrev pub answers : (Row → Bool) → (Row → List ℕ) → List Row → List (List ℕ)
answers test bytes rows = map bytes (filter test rows)

-- the counts with the bytes of the row once more, or once less, where it passes the test
abbrev pub with_row : (Row → Bool) → (Row → List ℕ) → ByBytes ℤ → Row → Bool → ByBytes ℤ
with_row test bytes counts row plus =
    if test row then added counts (bytes row) 1 plus else counts

-- the counts after rows that come and rows that go, one after the other
abbrev pub counts_after : (Row → Bool) → (Row → List ℕ) → ByBytes ℤ → List SignedRow → ByBytes ℤ
counts_after test bytes counts [] = counts
counts_after test bytes counts (signed ∷ more) =
    counts_after test bytes (with_row test bytes counts signed.row signed.plus) more
