-- The rows of one side of a join, looked up in the other. Only the crate's private clauses cite it.
use Rattle.std.specs.Prelude.{◌≡◌, ℕ, ◌≤◌, List, [], ◌∷◌, ◌++◌, map}
use Rattle.ncq_row.specs.Embeddings.{Row}
use Rattle.ncq_row.specs.declared.pair.Pair.{Pair}
use Rattle.ncq_plan.specs.Exprs.{join_rows}
use Rattle.ncq_midfile.specs.declared.signed.SignedRow.{SignedRow}
use Rattle.ncq_midfile.specs.Content.{IsSoundAt}
use Rattle.ncq_midfile.specs.Shown.{shown, rows_below}
use Rattle.ncq_midfile.specs.declared.view.View.{View}
use Rattle.ncq_midfile.specs.Matching.{HaveSlots}
use Rattle.ncq_delta.specs.declared.probe.Side.{Side}
use Rattle.ncq_delta.specs.declared.probe.Side.TheVariants.{Left, Right}
use Rattle.ncq_delta.specs.Joins.{with_row}

-- the slot of the pair on the side
abbrev pub slot_on : Side → Pair → ℕ
slot_on Left pair = pair.left
slot_on Right pair = pair.right

-- the slots of the pairs on the side
abbrev pub slots_on : Side → List Pair → List ℕ
slots_on side pairs = map (slot_on side) pairs

-- the side across
abbrev pub across : Side → Side
across Left = Right
across Right = Left

-- the row of the side joined with one of the other: that of the left stands in front
abbrev pub beside : Side → Row → Row → Row
beside Left row other = row ++ other
beside Right row other = other ++ row

-- the row of the side joined with the rows of the other
abbrev pub joined_on : Side → List Pair → List Row → Row → List Row
joined_on Left pairs others row = join_rows pairs (row ∷ []) others
joined_on Right pairs others row = join_rows pairs others (row ∷ [])

-- and a changed row, with its number and its sign
abbrev pub changed_on : Side → List Pair → List Row → SignedRow → List SignedRow
changed_on side pairs others changed =
    map (with_row changed) (joined_on side pairs others changed.row)

-- rows of the side can be looked up in the other: its slots are those of the pairs and each row has
-- them, and at the number it is sound and its content is known
pub record IsReady (side : Side) (pairs : List Pair) (slots : List ℕ) (number : ℕ) (other : View)
    : Type 0 where
  pub slots_are : slots ≡ slots_on (across side) pairs
  pub within : HaveSlots slots (rows_below other)
  pub base : (shown other).base ≤ number
  pub sound : IsSoundAt number (shown other).rows
