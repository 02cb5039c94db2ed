-- The expressions of files.
use Rattle.std.specs.Prelude.{List, map}
use Rattle.std.specs.FinMap.{values}
use Rattle.ncq_plan.specs.declared.expr.Expr.{Expr}
use Rattle.ncq_shelf.specs.KeptFiles.{Files}

-- the expressions of the files, by rising number
abbrev pub exprs_of : Files → List Expr
exprs_of files = map (λ file. file.expr) (values files)
