-- The plan of a well formed query is well formed.
use Rattle.std.proofs.Common.{◌≡◌, ℕ, ◌+◌, ◌*◌, ◌<◌, ◌≤◌, ◌&&◌, Bool, true, false, List, [], ◌∷◌, length, refl, sym, ◌∙◌, ap, subst, arith, zero-add}
use Rattle.std.specs.Prelude.{nat_lt}
use Rattle.std.specs.List.{AllByRecursion, list_all}
use Rattle.std.proofs.lemmas.Bool.Decides.{nat_tests}
use Rattle.ncq_row.specs.declared.pair.Pair.{Pair}
use Rattle.ncq_plan.specs.declared.expr.Expr.{Expr}
use Rattle.ncq_plan.specs.declared.expr.Expr.TheVariants.{Scan, EqSel, RangeSel, Join}
use Rattle.ncq_plan.specs.declared.query.Arm.{Arm}
use Rattle.ncq_plan.specs.declared.query.EqualTo.{EqualTo}
use Rattle.ncq_plan.specs.declared.query.Within.{Within}
use Rattle.ncq_plan.specs.declared.query.NormalQuery.{NormalQuery}
use Rattle.ncq_plan.specs.Exprs.{expr_width, operators}
use Rattle.ncq_plan.specs.Plans.{with_equals, with_ranges, arm_plan, with_arms, arms_plan, plan_of}
use Rattle.ncq_plan.proofs.ExprRows.{width_scan, width_equal, width_range, width_join, operators_scan, operators_equal, operators_range, operators_join, fit_scan, fit_equal, fit_range, fit_join}
use Rattle.ncq_plan.specs.Products.{arm_width}
use Rattle.ncq_plan.proofs.ExprCases.{fold_scan, fold_equal, fold_range, fold_join}
use Rattle.ncq_plan.specs.WellFormed.{paths_step, paths_are_formed, arm_is_formed, pair_fits, slots_fit, IsWellFormedExpr, equals_in, ranges_in, ArmFits, ArmsFit, IsWellFormed}

below : (a b : ℕ) → a < b → nat_lt a b ≡ true
below a b h = grind (arith, nat_tests)

split : (a b : Bool) → (a && b) ≡ true → (a ≡ true) × (b ≡ true)
split true b e = (refl, e)
split false b e = cc

both : (s t : Bool) → s ≡ true → t ≡ true → (s && t) ≡ true
both s t p q = λ i. p i && q i

-- how many operators

pub equals_operators : (equals : List EqualTo) (input : Expr) → operators (with_equals input equals) ≡ operators input + length equals
equals_operators [] input = omega arith
equals_operators (equal ∷ more) input = let rest = equals_operators more (EqSel input equal.slot equal.constant) in let one = operators_equal input equal.slot equal.constant in omega arith

pub ranges_operators : (ranges : List Within) (input : Expr) → operators (with_ranges input ranges) ≡ operators input + length ranges
ranges_operators [] input = omega arith
ranges_operators (range ∷ more) input = let rest = ranges_operators more (RangeSel input range.slot range.interval) in let one = operators_range input range.slot range.interval in omega arith

arm_operators : (arm : Arm) → operators (arm_plan arm) ≡ 1 + length arm.equals + length arm.ranges
arm_operators arm =
    let r = ranges_operators arm.ranges (with_equals (Scan arm.source arm.shape) arm.equals) in
    let e = equals_operators arm.equals (Scan arm.source arm.shape) in
    let s = operators_scan arm.source arm.shape in
    omega arith

joined_operators : (arms : List Arm) (plan : Expr) → operators (with_arms plan arms) ≡ operators plan + 2 * length arms + equals_in arms + ranges_in arms
joined_operators [] plan = omega arith
joined_operators (arm ∷ arms) plan =
    let rest = joined_operators arms (Join plan (arm_plan arm) arm.pairs) in
    let one = arm_operators arm in
    let join = operators_join plan (arm_plan arm) arm.pairs in
    omega arith

-- how many slots

pub equals_width : (equals : List EqualTo) (input : Expr) → expr_width (with_equals input equals) ≡ expr_width input
equals_width [] input = refl
equals_width (equal ∷ more) input = equals_width more (EqSel input equal.slot equal.constant) ∙ width_equal input equal.slot equal.constant

pub ranges_width : (ranges : List Within) (input : Expr) → expr_width (with_ranges input ranges) ≡ expr_width input
ranges_width [] input = refl
ranges_width (range ∷ more) input = ranges_width more (RangeSel input range.slot range.interval) ∙ width_range input range.slot range.interval

pub arm_plan-width : (arm : Arm) → expr_width (arm_plan arm) ≡ arm_width arm
arm_plan-width arm = ranges_width arm.ranges (with_equals (Scan arm.source arm.shape) arm.equals) ∙ equals_width arm.equals (Scan arm.source arm.shape) ∙ width_scan arm.source arm.shape

-- which slots are named

pub equals_fit : (equals : List EqualTo) (input : Expr) → slots_fit input ≡ true → AllByRecursion (λ equal. equal.slot < expr_width input) equals → slots_fit (with_equals input equals) ≡ true
equals_fit [] input fit all = fit
equals_fit (equal ∷ more) input fit all =
    equals_fit more (EqSel input equal.slot equal.constant)
    (fit_equal input equal.slot equal.constant ∙ both (slots_fit input) (nat_lt equal.slot (expr_width input)) fit (below equal.slot (expr_width input) all.0))
    (subst (λ w. AllByRecursion (λ equal. equal.slot < w) more) (sym (width_equal input equal.slot equal.constant)) all.1)

pub ranges_fit : (ranges : List Within) (input : Expr) → slots_fit input ≡ true → AllByRecursion (λ range. range.slot < expr_width input) ranges → slots_fit (with_ranges input ranges) ≡ true
ranges_fit [] input fit all = fit
ranges_fit (range ∷ more) input fit all =
    ranges_fit more (RangeSel input range.slot range.interval)
    (fit_range input range.slot range.interval ∙ both (slots_fit input) (nat_lt range.slot (expr_width input)) fit (below range.slot (expr_width input) all.0))
    (subst (λ w. AllByRecursion (λ range. range.slot < w) more) (sym (width_range input range.slot range.interval)) all.1)

arm_fits : (offset : ℕ) (arm : Arm) → ArmFits offset arm → slots_fit (arm_plan arm) ≡ true
arm_fits offset arm fits =
    let scan = width_scan arm.source arm.shape in
    ranges_fit arm.ranges (with_equals (Scan arm.source arm.shape) arm.equals)
    (equals_fit arm.equals (Scan arm.source arm.shape) (fit_scan arm.source arm.shape) (subst (λ w. AllByRecursion (λ equal. equal.slot < w) arm.equals) (sym scan) fits.equals))
    (subst (λ w. AllByRecursion (λ range. range.slot < w) arm.ranges) (sym (equals_width arm.equals (Scan arm.source arm.shape) ∙ scan)) fits.ranges)

pairs_fit : (left right : ℕ) (pairs : List Pair) → AllByRecursion (λ pair. pair.left < left) pairs → AllByRecursion (λ pair. pair.right < right) pairs → list_all (pair_fits left right) pairs ≡ true
pairs_fit left right [] l r = refl
pairs_fit left right (pair ∷ pairs) l r =
    both (pair_fits left right pair) (list_all (pair_fits left right) pairs) (both (nat_lt pair.left left) (nat_lt pair.right right) (below pair.left left l.0) (below pair.right right r.0)) (pairs_fit left right pairs l.1 r.1)

joined_fit : (arms : List Arm) (plan : Expr) → slots_fit plan ≡ true → ArmsFit (expr_width plan) arms → slots_fit (with_arms plan arms) ≡ true
joined_fit [] plan fit all = fit
joined_fit (arm ∷ arms) plan fit all =
    let width = arm_plan-width arm in
    let wide : expr_width (Join plan (arm_plan arm) arm.pairs) ≡ expr_width plan + arm_width arm = width_join plan (arm_plan arm) arm.pairs ∙ ap (λ w. expr_width plan + w) width in
    joined_fit arms (Join plan (arm_plan arm) arm.pairs)
    (fit_join plan (arm_plan arm) arm.pairs
    ∙ both (slots_fit plan && slots_fit (arm_plan arm)) (list_all (pair_fits (expr_width plan) (expr_width (arm_plan arm))) arm.pairs)
    (both (slots_fit plan) (slots_fit (arm_plan arm)) fit (arm_fits (expr_width plan) arm all.0))
    (pairs_fit (expr_width plan) (expr_width (arm_plan arm)) arm.pairs all.0.lefts (subst (λ w. AllByRecursion (λ pair. pair.right < w) arm.pairs) (sym width) all.0.rights)))
    (subst (λ w. ArmsFit w arms) (sym wide) all.1)

-- which paths stand in the shapes

pub equals_paths : (equals : List EqualTo) (input : Expr) → paths_are_formed (with_equals input equals) ≡ paths_are_formed input
equals_paths [] input = refl
equals_paths (equal ∷ more) input = equals_paths more (EqSel input equal.slot equal.constant) ∙ fold_equal paths_step input equal.slot equal.constant

pub ranges_paths : (ranges : List Within) (input : Expr) → paths_are_formed (with_ranges input ranges) ≡ paths_are_formed input
ranges_paths [] input = refl
ranges_paths (range ∷ more) input = ranges_paths more (RangeSel input range.slot range.interval) ∙ fold_range paths_step input range.slot range.interval

arm_paths : (arm : Arm) → paths_are_formed (arm_plan arm) ≡ arm_is_formed arm
arm_paths arm =
    ranges_paths arm.ranges (with_equals (Scan arm.source arm.shape) arm.equals)
    ∙ equals_paths arm.equals (Scan arm.source arm.shape)
    ∙ fold_scan paths_step arm.source arm.shape

joined_paths : (arms : List Arm) (plan : Expr) → paths_are_formed plan ≡ true → list_all arm_is_formed arms ≡ true → paths_are_formed (with_arms plan arms) ≡ true
joined_paths [] plan fit all = fit
joined_paths (arm ∷ arms) plan fit all =
    let s = split (arm_is_formed arm) (list_all arm_is_formed arms) all in
    joined_paths arms (Join plan (arm_plan arm) arm.pairs)
    (fold_join paths_step plan (arm_plan arm) arm.pairs ∙ both (paths_are_formed plan) (paths_are_formed (arm_plan arm)) fit (arm_paths arm ∙ s.0)) s.1

-- an operator for each arm, for each but the first a join, and one for each demand
pub plan_operators : (query : NormalQuery) → IsWellFormed query → operators (plan_of query) + 1 ≡ 2 * length query.arms + equals_in query.arms + ranges_in query.arms
plan_operators query fits = by query.arms fits.some
  where
    by : (arms : List Arm) → 1 ≤ length arms → operators (arms_plan arms) + 1 ≡ 2 * length arms + equals_in arms + ranges_in arms
    by [] some = absurd (omega arith)
    by (arm ∷ arms) some = let rest = joined_operators arms (arm_plan arm) in let one = arm_operators arm in omega arith

pub plan_is_well_formed : (query : NormalQuery) → IsWellFormed query → IsWellFormedExpr (plan_of query)
plan_is_well_formed query fits = record {
  small = let many = plan_operators query fits in let few = fits.few in let equals = fits.equals in let ranges = fits.ranges in omega arith;
  slots = by query.arms fits.some fits.arms;
  paths = formed query.arms fits.some fits.paths;
}
  where
    by : (arms : List Arm) → 1 ≤ length arms → ArmsFit 0 arms → slots_fit (arms_plan arms) ≡ true
    by [] some fit = absurd (omega arith)
    by (arm ∷ arms) some fit = joined_fit arms (arm_plan arm) (arm_fits 0 arm fit.0) (subst (λ w. ArmsFit w arms) (zero-add (arm_width arm) ∙ sym (arm_plan-width arm)) fit.1)

    formed : (arms : List Arm) → 1 ≤ length arms → list_all arm_is_formed arms ≡ true → paths_are_formed (arms_plan arms) ≡ true
    formed [] some paths = absurd (omega arith)
    formed (arm ∷ arms) some paths =
        let s = split (arm_is_formed arm) (list_all arm_is_formed arms) paths in
        joined_paths arms (arm_plan arm) (arm_paths arm ∙ s.0) s.1
