-- The signed rows that a change of its sides makes of a join.
use Rattle.std.specs.Prelude.{ℕ, List, [], ◌∷◌, ◌++◌, map}
use Rattle.std.specs.List.{flat_map}
use Rattle.ncq_row.specs.Embeddings.{Row}
use Rattle.ncq_row.specs.declared.pair.Pair.{Pair}
use Rattle.ncq_plan.specs.Exprs.{join_rows}
use Rattle.ncq_midfile.specs.declared.signed.SignedRow.{SignedRow}

-- the slots of the pairs on the left, and those on the right
abbrev pub left_slots : List Pair → List ℕ
left_slots pairs = map (λ pair. pair.left) pairs

abbrev pub right_slots : List Pair → List ℕ
right_slots pairs = map (λ pair. pair.right) pairs

-- the row with the number and the sign of a changed row
abbrev pub with_row : SignedRow → Row → SignedRow
with_row changed row = record { number = changed.number; plus = changed.plus; row = row }

-- a changed row of the left joined with rows of the right, with its number and its sign
abbrev pub with_rights : List Pair → List Row → SignedRow → List SignedRow
with_rights pairs rights changed =
    map (with_row changed) (join_rows pairs (changed.row ∷ []) rights)

-- rows of the left joined with a changed row of the right, with its number and its sign
abbrev pub with_lefts : List Pair → List Row → SignedRow → List SignedRow
with_lefts pairs lefts changed = map (with_row changed) (join_rows pairs lefts (changed.row ∷ []))

-- what changes in a join: the left's changed rows with the right before, then the left now with the
-- right's changed rows
abbrev pub join_change
    : List Pair → List SignedRow → List Row → List Row → List SignedRow → List SignedRow
join_change pairs left_changed right_before left_now right_changed =
    flat_map (with_rights pairs right_before) left_changed
    ++ flat_map (with_lefts pairs left_now) right_changed
