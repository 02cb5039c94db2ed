-- The signature of an expression, by its variants.
use Rattle.std.proofs.Common.{◌≡◌, ℕ, List}
use Rattle.ncq_base.specs.declared.atom.Atom.{Atom}
use Rattle.ncq_row.specs.declared.shape.Shape.{Shape}
use Rattle.ncq_base.specs.declared.interval.Interval.{Interval}
use Rattle.ncq_row.specs.declared.pair.Pair.{Pair}
use Rattle.ncq_plan.specs.declared.expr.Expr.{Expr}
use Rattle.ncq_plan.specs.declared.expr.Expr.TheVariants.{Scan, EqSel, RangeSel, Join}
use Rattle.ncq_plan.proofs.ExprCases.{para_scan, para_equal, para_range, para_join}
use Rattle.ncq_signature.specs.declared.signature.Signature.TheVariants.{Scan as ScanOf, EqOn, RangeOn, JoinOf}
use Rattle.ncq_signature.specs.Signatures.{signature_of, signature_step}

pub signature_scan : (source : List ℕ) (shape : Shape) → signature_of (Scan source shape) ≡ ScanOf source shape
signature_scan = para_scan signature_step

pub signature_equal : (input : Expr) (slot : ℕ) (constant : Atom) → signature_of (EqSel input slot constant) ≡ EqOn input slot
signature_equal = para_equal signature_step

pub signature_range : (input : Expr) (slot : ℕ) (interval : Interval) → signature_of (RangeSel input slot interval) ≡ RangeOn input slot
signature_range = para_range signature_step

pub signature_join : (left right : Expr) (pairs : List Pair) → signature_of (Join left right pairs) ≡ JoinOf left right pairs
signature_join = para_join signature_step

-- the signature of each variant
pub ruleset signatures_are = (signature_scan, signature_equal, signature_range, signature_join)
