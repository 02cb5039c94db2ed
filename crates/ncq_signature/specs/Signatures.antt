-- The signature of an expression, and what expressions of one signature have in common.
use Rattle.std.specs.Prelude.{◌≡◌, ◌⊎◌, ℕ}
use Rattle.ncq_base.specs.declared.atom.Atom.{Atom}
use Rattle.ncq_base.specs.declared.interval.Interval.{Interval}
use Rattle.ncq_plan.specs.declared.expr.Expr.{Expr}
use Rattle.ncq_plan.specs.declared.expr.Expr.TheVariants.{EqSel, RangeSel}
use Rattle.ncq_plan.specs.declared.expr.Expr.TheOpen.{Expr-F}
use Rattle.ncq_plan.specs.declared.expr.Expr.TheOpen.Expr-F.{Scan as ScanLayer}
use Rattle.ncq_plan.specs.declared.expr.Expr.TheOpen.Expr-F.{EqSel as EqualLayer}
use Rattle.ncq_plan.specs.declared.expr.Expr.TheOpen.Expr-F.{RangeSel as RangeLayer}
use Rattle.ncq_plan.specs.declared.expr.Expr.TheOpen.Expr-F.{Join as JoinLayer}
use Rattle.ncq_plan.specs.declared.expr.Expr.TheFolds.{para-Expr}
use Rattle.ncq_signature.specs.declared.signature.Signature.{Signature}
use Rattle.ncq_signature.specs.declared.signature.Signature.TheVariants.{Scan, EqOn}
use Rattle.ncq_signature.specs.declared.signature.Signature.TheVariants.{RangeOn, JoinOf}

-- inputs stay whole
abbrev pub signature_step : Expr-F (Expr × Signature) → Signature
signature_step (ScanLayer source shape) = Scan source shape
signature_step (EqualLayer input slot constant) = EqOn input.0 slot
signature_step (RangeLayer input slot interval) = RangeOn input.0 slot
signature_step (JoinLayer left right pairs) = JoinOf left.0 right.0 pairs

-- the expression without the constant or the interval of its outermost operator
abbrev pub signature_of : Expr → Signature
signature_of = para-Expr Signature signature_step

-- both are equality selections of one slot of one input
pub record AreEqualities (one other : Expr) : Type 0 where
  pub input : Expr
  pub slot : ℕ
  pub constant : Atom
  pub constant' : Atom
  pub is : one ≡ EqSel input slot constant
  pub is' : other ≡ EqSel input slot constant'

-- both are range selections of one slot of one input
pub record AreRanges (one other : Expr) : Type 0 where
  pub input : Expr
  pub slot : ℕ
  pub interval : Interval
  pub interval' : Interval
  pub is : one ≡ RangeSel input slot interval
  pub is' : other ≡ RangeSel input slot interval'

-- the two differ at most in the constant or the interval of their outermost operator
abbrev pub DifferInConstant : Expr → Expr → Type 0
DifferInConstant one other = (one ≡ other) ⊎ (AreEqualities one other ⊎ AreRanges one other)
