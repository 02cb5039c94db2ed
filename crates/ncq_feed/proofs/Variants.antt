-- Expressions of two variants are never one, and a join tells its parts.
use Rattle.std.proofs.Common.{◌≡◌, ℕ, true, false, List, sym, ap, ◌∙◌}
use Rattle.ncq_base.specs.declared.atom.Atom.{Atom}
use Rattle.ncq_base.specs.declared.interval.Interval.{Interval}
use Rattle.ncq_row.specs.declared.pair.Pair.{Pair}
use Rattle.ncq_row.specs.declared.shape.Shape.{Shape}
use Rattle.ncq_plan.specs.declared.expr.Expr.{Expr}
use Rattle.ncq_plan.specs.declared.expr.Expr.TheVariants.{Scan, EqSel, RangeSel, Join, rolls-Scan, rolls-EqSel, rolls-RangeSel, rolls-Join}
use Rattle.ncq_plan.specs.declared.expr.Expr.TheViews.{out-Expr, out-roll-Expr}
use Rattle.ncq_plan.specs.declared.expr.Expr.TheOpen.{Expr-F}
use Rattle.ncq_plan.specs.declared.expr.Expr.TheOpen.Expr-F.{Scan as ScanLayer, EqSel as EqualLayer, RangeSel as RangeLayer, Join as JoinLayer}
use Rattle.ncq_feed.specs.Feeds.{is_range_layer, is_range}

abbrev tag : Expr-F Expr → ℕ
tag (ScanLayer source shape) = 0
tag (EqualLayer input slot constant) = 1
tag (RangeLayer input slot interval) = 2
tag (JoinLayer left right pairs) = 3

-- which of the four it is
abbrev pub kind : Expr → ℕ
kind e = tag (out-Expr e)

out-Scan : (source : List ℕ) (shape : Shape) → out-Expr (Scan source shape) ≡ ScanLayer source shape
out-Scan source shape = ap out-Expr (sym (rolls-Scan source shape)) ∙ out-roll-Expr (ScanLayer source shape)

out-EqSel : (input : Expr) (slot : ℕ) (constant : Atom) → out-Expr (EqSel input slot constant) ≡ EqualLayer input slot constant
out-EqSel input slot constant = ap out-Expr (sym (rolls-EqSel input slot constant)) ∙ out-roll-Expr (EqualLayer input slot constant)

out-RangeSel : (input : Expr) (slot : ℕ) (interval : Interval) → out-Expr (RangeSel input slot interval) ≡ RangeLayer input slot interval
out-RangeSel input slot interval = ap out-Expr (sym (rolls-RangeSel input slot interval)) ∙ out-roll-Expr (RangeLayer input slot interval)

out-Join : (left right : Expr) (pairs : List Pair) → out-Expr (Join left right pairs) ≡ JoinLayer left right pairs
out-Join left right pairs = ap out-Expr (sym (rolls-Join left right pairs)) ∙ out-roll-Expr (JoinLayer left right pairs)

pub kind_scan : (source : List ℕ) (shape : Shape) → kind (Scan source shape) ≡ 0
kind_scan source shape = ap tag (out-Scan source shape)

pub kind_equal : (input : Expr) (slot : ℕ) (constant : Atom) → kind (EqSel input slot constant) ≡ 1
kind_equal input slot constant = ap tag (out-EqSel input slot constant)

pub kind_range : (input : Expr) (slot : ℕ) (interval : Interval) → kind (RangeSel input slot interval) ≡ 2
kind_range input slot interval = ap tag (out-RangeSel input slot interval)

pub kind_join : (left right : Expr) (pairs : List Pair) → kind (Join left right pairs) ≡ 3
kind_join left right pairs = ap tag (out-Join left right pairs)

joins_of : (left right left' right' : Expr) (pairs pairs' : List Pair) → ◌≡◌ {A = Expr-F Expr} (JoinLayer left right pairs) (JoinLayer left' right' pairs') → (left ≡ left') × (right ≡ right') × (pairs ≡ pairs')
joins_of left right left' right' pairs pairs' e = (cc, cc, cc)

-- equal joins have the same parts
pub join_parts : (left right left' right' : Expr) (pairs pairs' : List Pair) → Join left right pairs ≡ Join left' right' pairs' → (left ≡ left') × (right ≡ right') × (pairs ≡ pairs')
join_parts left right left' right' pairs pairs' e =
    joins_of left right left' right' pairs pairs' (sym (out-Join left right pairs) ∙ ap out-Expr e ∙ out-Join left' right' pairs')

scans_of : (source source' : List ℕ) (shape shape' : Shape) → ◌≡◌ {A = Expr-F Expr} (ScanLayer source shape) (ScanLayer source' shape') → (source ≡ source') × (shape ≡ shape')
scans_of source source' shape shape' e = (cc, cc)

pub scan_parts : (source source' : List ℕ) (shape shape' : Shape) → Scan source shape ≡ Scan source' shape' → (source ≡ source') × (shape ≡ shape')
scan_parts source source' shape shape' e =
    scans_of source source' shape shape' (sym (out-Scan source shape) ∙ ap out-Expr e ∙ out-Scan source' shape')

ranges_of : (input input' : Expr) (slot slot' : ℕ) (interval interval' : Interval) → ◌≡◌ {A = Expr-F Expr} (RangeLayer input slot interval) (RangeLayer input' slot' interval')
    → (input ≡ input') × (slot ≡ slot') × (interval ≡ interval')
ranges_of input input' slot slot' interval interval' e = (cc, cc, cc)

pub range_parts : (input input' : Expr) (slot slot' : ℕ) (interval interval' : Interval) → RangeSel input slot interval ≡ RangeSel input' slot' interval' → (input ≡ input') × (slot ≡ slot') × (interval ≡ interval')
range_parts input input' slot slot' interval interval' e =
    ranges_of input input' slot slot' interval interval' (sym (out-RangeSel input slot interval) ∙ ap out-Expr e ∙ out-RangeSel input' slot' interval')

-- which of them selects by an interval
pub range_scan : (source : List ℕ) (shape : Shape) → is_range (Scan source shape) ≡ false
range_scan source shape = ap is_range_layer (out-Scan source shape)

pub range_equal : (input : Expr) (slot : ℕ) (constant : Atom) → is_range (EqSel input slot constant) ≡ false
range_equal input slot constant = ap is_range_layer (out-EqSel input slot constant)

pub range_range : (input : Expr) (slot : ℕ) (interval : Interval) → is_range (RangeSel input slot interval) ≡ true
range_range input slot interval = ap is_range_layer (out-RangeSel input slot interval)

pub range_join : (left right : Expr) (pairs : List Pair) → is_range (Join left right pairs) ≡ false
range_join left right pairs = ap is_range_layer (out-Join left right pairs)
