-- What the entries of a change make of the rows of scans.
use Rattle.std.specs.Prelude.{if◌then◌else◌, ◌≡◌, ℕ, true, false, List, [], ◌++◌, map}
use Rattle.std.specs.Prelude.{Option, Some, None}
use Rattle.std.specs.List.{flat_map}
use Rattle.std.specs.Str.{bytes_eq}
use Rattle.std.specs.FinMap as by_key
use Rattle.ncq_tree.specs.declared.model.Element.{Element}
use Rattle.ncq_source.specs.declared.change.Entry.{Entry}
use Rattle.ncq_source.specs.Changes.{Chains}
use Rattle.ncq_source.specs.Changes as changes
use Rattle.ncq_source.specs.Held.{Kept}
use Rattle.ncq_row.specs.declared.shape.Shape.{Shape}
use Rattle.ncq_row.specs.Embeddings.{Row, rows_of}
use Rattle.ncq_plan.specs.Exprs.{World}
use Rattle.ncq_plan.specs.Totals.{SignedRow}
use Rattle.ncq_plan.specs.Deltas.{signed, ScanDeltas}

-- the rows of an element, where there is one
abbrev pub element_rows : Shape → Option Element → List Row
element_rows shape None = []
element_rows shape (Some element) = rows_of shape element

-- what an entry changes: minus the rows of the element before, plus the rows of the element after
abbrev pub entry_delta : Shape → Entry → List SignedRow
entry_delta shape entry =
    signed false (element_rows shape entry.before) ++ signed true (element_rows shape entry.after)

-- what the entries change, one after the other
abbrev pub scan_delta : Shape → List Entry → List SignedRow
scan_delta shape entries = flat_map (entry_delta shape) entries

-- the signed rows of each scan, where each source has these entries
abbrev pub scans_of : (List ℕ → List Entry) → ScanDeltas
scans_of entries source shape = scan_delta shape (entries source)

-- the elements of each source, rising by key
abbrev pub world_of : (List ℕ → Kept) → World
world_of kept source = map (λ entry. entry.1) (by_key.entries (kept source))

-- for each source, the entries say what their keys held, and lead from the elements before to those
-- after
pub record IsChange (before after : List ℕ → Kept) (entries : List ℕ → List Entry) : Type 0 where
  pub chains : (source : List ℕ) → Chains (before source) (entries source)
  pub ends : (source : List ℕ) → after source ≡ changes.after (before source) (entries source)

-- these entries for the source of this name, and none for the others
abbrev pub of_source : List ℕ → List Entry → List ℕ → List Entry
of_source name entries source = if bytes_eq name source then entries else []

-- the elements of each source after entries of the source of this name
abbrev pub after_in : (List ℕ → Kept) → List ℕ → List Entry → List ℕ → Kept
after_in kept name entries source =
    if bytes_eq name source then changes.after (kept source) entries else kept source
