use Rattle.ncq_construct.proofs.RowsProper.{shape_rows_are_proper, expr_rows_are_proper}
use Rattle.ncq_construct.proofs.laws.rows_are_proper.Goals as goal

pub returns : goal.returns
returns c = record {
  shapes = shape_rows_are_proper;
  exprs = λ expr world proper. expr_rows_are_proper world proper expr;
}
