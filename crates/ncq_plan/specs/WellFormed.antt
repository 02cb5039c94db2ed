-- Well formed queries and expressions: the slots that they name are there, and they are not too
-- large.
use Rattle.std.specs.Prelude.{◌≡◌, ℕ, ◌+◌, ◌<◌, ◌≤◌, Bool, true, ◌&&◌, nat_lt, List, [], ◌∷◌}
use Rattle.std.specs.Prelude.{length}
use Rattle.std.specs.List.{AllByRecursion, list_all}
use Rattle.ncq_row.specs.Formed.{shape_is_formed}
use Rattle.ncq_row.specs.declared.pair.Pair.{Pair}
use Rattle.ncq_plan.specs.declared.expr.Expr.{Expr}
use Rattle.ncq_plan.specs.declared.expr.Expr.TheOpen.{Expr-F}
use Rattle.ncq_plan.specs.declared.expr.Expr.TheOpen.Expr-F.{Scan, EqSel, RangeSel, Join}
use Rattle.ncq_plan.specs.declared.expr.Expr.TheFolds.{fold-Expr, para-Expr}
use Rattle.ncq_plan.specs.declared.query.Arm.{Arm}
use Rattle.ncq_plan.specs.declared.query.NormalQuery.{NormalQuery}
use Rattle.ncq_plan.specs.Exprs.{expr_width, operators}
use Rattle.ncq_plan.specs.Products.{arm_width}
use Rattle.ncq_plan.specs.Residuals.{checks_are_within}
use Rattle.ncq_plan.specs.Templates.{template_is_within}

-- whether each pair has its left slot in the left width and its right slot in the right width
abbrev pub pair_fits : ℕ → ℕ → Pair → Bool
pair_fits left right pair = nat_lt pair.left left && nat_lt pair.right right

abbrev pub slots_step : Expr-F (Expr × Bool) → Bool
slots_step (Scan source shape) = true
slots_step (EqSel input slot constant) = input.1 && nat_lt slot (expr_width input.0)
slots_step (RangeSel input slot interval) = input.1 && nat_lt slot (expr_width input.0)
slots_step (Join left right pairs) =
    left.1 && right.1
    && list_all (pair_fits (expr_width left.0) (expr_width right.0)) pairs

-- whether each selection's slot is one of its input's, and each pair's slots are those of the
-- join's two inputs
abbrev pub slots_fit : Expr → Bool
slots_fit = para-Expr Bool slots_step

abbrev pub paths_step : Expr-F Bool → Bool
paths_step (Scan source shape) = shape_is_formed shape
paths_step (EqSel input slot constant) = input
paths_step (RangeSel input slot interval) = input
paths_step (Join left right pairs) = left && right

-- whether each path of the shapes is well formed
abbrev pub paths_are_formed : Expr → Bool
paths_are_formed = fold-Expr Bool paths_step

-- an expression of at most 256 operators whose slots are there and whose paths are well formed
pub record IsWellFormedExpr (expr : Expr) : Type 0 where
  pub small : operators expr ≤ 256
  pub slots : slots_fit expr ≡ true
  pub paths : paths_are_formed expr ≡ true

-- the widths of arms together
abbrev pub arms_width : List Arm → ℕ
arms_width [] = 0
arms_width (arm ∷ arms) = arm_width arm + arms_width arms

-- how many demands of equality, and how many ranges, arms have together
abbrev pub equals_in : List Arm → ℕ
equals_in [] = 0
equals_in (arm ∷ arms) = length arm.equals + equals_in arms

abbrev pub ranges_in : List Arm → ℕ
ranges_in [] = 0
ranges_in (arm ∷ arms) = length arm.ranges + ranges_in arms

-- the slots that an arm names are its own, but the left ones of its pairs, which are those of the
-- arms before
pub record ArmFits (offset : ℕ) (arm : Arm) : Type 0 where
  pub equals : AllByRecursion (λ equal. equal.slot < arm_width arm) arm.equals
  pub ranges : AllByRecursion (λ range. range.slot < arm_width arm) arm.ranges
  pub lefts : AllByRecursion (λ pair. pair.left < offset) arm.pairs
  pub rights : AllByRecursion (λ pair. pair.right < arm_width arm) arm.pairs

-- whether each path of the arm's shape is well formed
abbrev pub arm_is_formed : Arm → Bool
arm_is_formed arm = shape_is_formed arm.shape

-- each arm fits at its offset, the sum of the widths of those before
abbrev pub ArmsFit : ℕ → List Arm → Type 0
ArmsFit offset [] = Unit {0}
ArmsFit offset (arm ∷ arms) = ArmFits offset arm × ArmsFit (offset + arm_width arm) arms

-- 1 to 8 arms, at most 64 slots, 96 demands of equality and 32 ranges; each slot that is named is
-- there, and each path is well formed
pub record IsWellFormed (query : NormalQuery) : Type 0 where
  pub some : 1 ≤ length query.arms
  pub few : length query.arms ≤ 8
  pub slots : arms_width query.arms ≤ 64
  pub equals : equals_in query.arms ≤ 96
  pub ranges : ranges_in query.arms ≤ 32
  pub arms : ArmsFit 0 query.arms
  pub paths : list_all arm_is_formed query.arms ≡ true
  pub residual : checks_are_within (arms_width query.arms) query.residual ≡ true
  pub template : template_is_within (arms_width query.arms) query.template ≡ true
