-- The inputs and the parts of an expression.
use Rattle.std.specs.Prelude.{◌≡◌, ◌⊎◌, List, [], ◌∷◌}
use Rattle.ncq_plan.specs.declared.expr.Expr.{Expr}
use Rattle.ncq_plan.specs.declared.expr.Expr.TheOpen.{Expr-F}
use Rattle.ncq_plan.specs.declared.expr.Expr.TheOpen.Expr-F.{Scan as ScanLayer}
use Rattle.ncq_plan.specs.declared.expr.Expr.TheOpen.Expr-F.{EqSel as EqualLayer}
use Rattle.ncq_plan.specs.declared.expr.Expr.TheOpen.Expr-F.{RangeSel as RangeLayer}
use Rattle.ncq_plan.specs.declared.expr.Expr.TheOpen.Expr-F.{Join as JoinLayer}
use Rattle.ncq_plan.specs.declared.expr.Expr.TheViews.{out-Expr}

-- whether an operator reads the expression
abbrev pub IsRead : Expr → Expr-F Expr → Type 0
IsRead input (ScanLayer source shape) = ⊥
IsRead input (EqualLayer of slot constant) = input ≡ of
IsRead input (RangeLayer of slot interval) = input ≡ of
IsRead input (JoinLayer left right pairs) = (input ≡ left) ⊎ (input ≡ right)

-- the first is an input of the second
abbrev pub IsInput : Expr → Expr → Type 0
IsInput input whole = IsRead input (out-Expr whole)

-- part is a part of whole: it is whole, or a part of an input of whole
pub data IsPart (part : Expr) : Expr → Type 0 where
  itself : IsPart part part
  within : {whole input : Expr} → IsInput input whole → IsPart part input → IsPart part whole

-- the expression is a part of one of these
abbrev pub IsPartOfOne : Expr → List Expr → Type 0
IsPartOfOne part [] = ⊥
IsPartOfOne part (whole ∷ others) = IsPart part whole ⊎ IsPartOfOne part others
