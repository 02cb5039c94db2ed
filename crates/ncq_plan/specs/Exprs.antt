-- Expressions: their slots, their operators, and their rows over the elements of sources.
use Rattle.std.specs.Prelude.{ℕ, ◌+◌, List, ◌++◌, map}
use Rattle.std.specs.List.{filter, flat_map}
use Rattle.ncq_tree.specs.declared.model.Element.{Element}
use Rattle.ncq_row.specs.declared.shape.Shape.{Shape}
use Rattle.ncq_row.specs.Embeddings.{Row, rows_of}
use Rattle.ncq_row.specs.Widths.{width}
use Rattle.ncq_row.specs.declared.pair.Pair.{Pair}
use Rattle.ncq_plan.specs.declared.expr.Expr.{Expr}
use Rattle.ncq_plan.specs.declared.expr.Expr.TheOpen.{Expr-F}
use Rattle.ncq_plan.specs.declared.expr.Expr.TheOpen.Expr-F.{Scan, EqSel, RangeSel, Join}
use Rattle.ncq_plan.specs.declared.expr.Expr.TheFolds.{fold-Expr}
use Rattle.ncq_plan.specs.Meets.{has_atom, is_within, agree}

-- the elements of each source, by the source's name
abbrev pub World : Type 0
World = List ℕ → List Element

-- the slots of an expression's rows: a selection has those of its input, a join those of the left
-- and then those of the right
abbrev pub width_step : Expr-F ℕ → ℕ
width_step (Scan source shape) = width shape
width_step (EqSel input slot constant) = input
width_step (RangeSel input slot interval) = input
width_step (Join left right pairs) = left + right

abbrev pub expr_width : Expr → ℕ
expr_width = fold-Expr ℕ width_step

-- the operators of an expression
abbrev pub operators_step : Expr-F ℕ → ℕ
operators_step (Scan source shape) = 1
operators_step (EqSel input slot constant) = input + 1
operators_step (RangeSel input slot interval) = input + 1
operators_step (Join left right pairs) = left + right + 1

abbrev pub operators : Expr → ℕ
operators = fold-Expr ℕ operators_step

-- the rows of the shape in each of the elements
abbrev pub scan_rows : Shape → List Element → List Row
scan_rows shape elements = flat_map (rows_of shape) elements

-- the row followed by each of the others where the pairs agree
abbrev pub followed_by : List Pair → List Row → Row → List Row
followed_by pairs right row = map (λ other. row ++ other) (filter (agree pairs row) right)

-- each left row followed by each right row where the pairs agree
abbrev pub join_rows : List Pair → List Row → List Row → List Row
join_rows pairs left right = flat_map (followed_by pairs right) left

abbrev pub rows_step : World → Expr-F (List Row) → List Row
rows_step world (Scan source shape) = scan_rows shape (world source)
rows_step world (EqSel input slot constant) = filter (has_atom slot constant) input
rows_step world (RangeSel input slot interval) = filter (is_within slot interval) input
rows_step world (Join left right pairs) = join_rows pairs left right

-- the rows of an expression, in a fixed order: a scan has those of its shape in each element of its
-- source, a selection those of its input that meet it, a join each left row followed by each right
-- row where each pair has the same atom
abbrev pub rows_in : Expr → World → List Row
rows_in expr world = fold-Expr (List Row) (rows_step world) expr
