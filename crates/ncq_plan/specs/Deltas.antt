-- How the rows of an expression change with the elements of sources.
use Rattle.std.specs.Prelude.{ℕ, Bool, List, ◌++◌, map}
use Rattle.std.specs.List.{filter, flat_map}
use Rattle.ncq_row.specs.declared.shape.Shape.{Shape}
use Rattle.ncq_row.specs.Embeddings.{Row}
use Rattle.ncq_row.specs.declared.pair.Pair.{Pair}
use Rattle.ncq_plan.specs.declared.expr.Expr.{Expr}
use Rattle.ncq_plan.specs.declared.expr.Expr.TheOpen.{Expr-F}
use Rattle.ncq_plan.specs.declared.expr.Expr.TheOpen.Expr-F.{Scan, EqSel, RangeSel, Join}
use Rattle.ncq_plan.specs.declared.expr.Expr.TheFolds.{para-Expr}
use Rattle.ncq_plan.specs.Meets.{has_atom, is_within, agree}
use Rattle.ncq_plan.specs.Exprs.{World, scan_rows, followed_by, rows_in}
use Rattle.ncq_plan.specs.Totals.{SignedRow, LeadsTo}

-- rows, each with this sign
abbrev pub signed : Bool → List Row → List SignedRow
signed plus rows = map (λ row. record { plus = plus; row = row }) rows

-- the changed rows that pass the test
abbrev pub selected_delta : (Row → Bool) → List SignedRow → List SignedRow
selected_delta test delta = filter (λ signed. test signed.row) delta

-- each changed row of the left followed by each row of the right where the pairs agree, with the
-- sign of the left
abbrev pub left_delta : List Pair → List SignedRow → List Row → List SignedRow
left_delta pairs delta right =
    flat_map (λ change. signed change.plus (followed_by pairs right change.row)) delta

-- a row followed by each changed row where the pairs agree, with its sign
abbrev pub followed_by_changed : List Pair → List SignedRow → Row → List SignedRow
followed_by_changed pairs delta row =
    map (λ change. record { plus = change.plus; row = row ++ change.row })
    (filter (λ change. agree pairs row change.row) delta)

-- each row of the left followed by each changed row of the right where the pairs agree, with the
-- sign of the right
abbrev pub right_delta : List Pair → List Row → List SignedRow → List SignedRow
right_delta pairs left delta = flat_map (followed_by_changed pairs delta) left

-- what changes in a join: the left's changes with the right before, then the left after with the
-- right's changes
abbrev pub join_delta
    : List Pair → List SignedRow → List Row → List Row → List SignedRow → List SignedRow
join_delta pairs left_changes right_before left_after right_changes =
    left_delta pairs left_changes right_before ++ right_delta pairs left_after right_changes

-- the signed rows of each scan, by its source and its shape
abbrev pub ScanDeltas : Type 0
ScanDeltas = List ℕ → Shape → List SignedRow

module _ (before after : World) (scans : ScanDeltas) where
  abbrev pub delta_step : Expr-F (Expr × List SignedRow) → List SignedRow
  delta_step (Scan source shape) = scans source shape
  delta_step (EqSel input slot constant) = selected_delta (has_atom slot constant) input.1
  delta_step (RangeSel input slot interval) = selected_delta (is_within slot interval) input.1
  delta_step (Join left right pairs) =
      join_delta pairs left.1 (rows_in right.0 before) (rows_in left.0 after) right.1

  -- the signed rows of an expression that lead from its rows before to its rows after: a scan has
  -- those given, a selection those of its input that meet it, a join those of join_delta
  abbrev pub delta_of : Expr → List SignedRow
  delta_of = para-Expr (List SignedRow) delta_step

-- the signed rows of every scan lead from its rows before to those after
abbrev pub ScansLead : World → World → ScanDeltas → Type 0
ScansLead before after scans =
    (source : List ℕ) (shape : Shape)
    → LeadsTo (scan_rows shape (before source)) (scans source shape)
    (scan_rows shape (after source))
