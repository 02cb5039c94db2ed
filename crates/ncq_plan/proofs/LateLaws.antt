-- The plan that joins first has the rows of the plan that selects first, in the same order, and is
-- well formed.
use Rattle.std.proofs.Common.{◌≡◌, ℕ, ◌+◌, ◌<◌, ◌≤◌, ◌&&◌, Bool, true, List, [], ◌∷◌, ◌++◌, length, length-append, map, refl, sym, ◌∙◌, ap, subst, arith, drop, get_or}
use Rattle.std.specs.List.{filter, list_all, AllByRecursion}
use Rattle.std.proofs.lemmas.List.{drop_more}
use Rattle.std.proofs.lemmas.List.Folds.{list_all-append, list_all-map}
use Rattle.ncq_row.specs.Embeddings.{Row, one_of_each}
use Rattle.ncq_plan.specs.declared.expr.Expr.{Expr}
use Rattle.ncq_plan.specs.declared.expr.Expr.TheVariants.{EqSel, RangeSel}
use Rattle.ncq_plan.specs.declared.query.Arm.{Arm}
use Rattle.ncq_plan.specs.declared.query.EqualTo.{EqualTo}
use Rattle.ncq_plan.specs.declared.query.Within.{Within}
use Rattle.ncq_plan.specs.declared.query.NormalQuery.{NormalQuery}
use Rattle.ncq_plan.specs.Exprs.{World, expr_width, operators, rows_in}
use Rattle.ncq_plan.specs.Late.{bare_arm, bare_query, bare_of, equal_behind, range_behind, equals_from, ranges_from, late_of}
use Rattle.ncq_plan.specs.Plans.{with_equals, with_ranges, plan_of}
use Rattle.ncq_plan.specs.Products.{arm_width, equal_holds, range_holds, pair_holds, arms_hold, arm_rows}
use Rattle.ncq_plan.specs.Residuals.{checks_are_within}
use Rattle.ncq_plan.specs.Templates.{template_is_within}
use Rattle.ncq_plan.specs.WellFormed.{slots_fit, paths_are_formed, arms_width, equals_in, ranges_in, ArmsFit, arm_is_formed, IsWellFormed, IsWellFormedExpr}
use Rattle.ncq_plan.proofs.Lists.{filter_alike, filter-filter, map-map}
use Rattle.ncq_plan.proofs.PlanFits.{equals_operators, ranges_operators, equals_width, ranges_width, equals_fit, ranges_fit, equals_paths, ranges_paths, plan_operators, plan_is_well_formed}
use Rattle.ncq_plan.proofs.PlanLaws.{meets_equal, meets_range, equals_rows, ranges_rows}
use Rattle.ncq_plan.proofs.ProductLaws.{plan_rows}
use Rattle.ncq_plan.proofs.WidthLaws.{plan_is_wide}

-- the query without its equalities and ranges is well formed

bare_length : (arms : List Arm) → length (map bare_arm arms) ≡ length arms
bare_length [] = refl
bare_length (arm ∷ arms) = let rest = bare_length arms in omega arith

bare_width : (arms : List Arm) → arms_width (map bare_arm arms) ≡ arms_width arms
bare_width [] = refl
bare_width (arm ∷ arms) = ap (λ w. arm_width arm + w) (bare_width arms)

bare_equals : (arms : List Arm) → equals_in (map bare_arm arms) ≡ 0
bare_equals [] = refl
bare_equals (arm ∷ arms) = let rest = bare_equals arms in omega arith

bare_ranges : (arms : List Arm) → ranges_in (map bare_arm arms) ≡ 0
bare_ranges [] = refl
bare_ranges (arm ∷ arms) = let rest = bare_ranges arms in omega arith

bare_fit : (offset : ℕ) (arms : List Arm) → ArmsFit offset arms → ArmsFit offset (map bare_arm arms)
bare_fit offset [] fits = tt
bare_fit offset (arm ∷ arms) fits =
    (record { equals = tt; ranges = tt; lefts = fits.0.lefts; rights = fits.0.rights }, bare_fit (offset + arm_width arm) arms fits.1)

bare_paths : (arms : List Arm) → list_all arm_is_formed (map bare_arm arms) ≡ list_all arm_is_formed arms
bare_paths [] = refl
bare_paths (arm ∷ arms) = ap (λ b. arm_is_formed arm && b) (bare_paths arms)

pub bare_is_well_formed : (query : NormalQuery) → IsWellFormed query → IsWellFormed (bare_query query)
bare_is_well_formed query fits = record {
  some = subst (λ n. 1 ≤ n) (sym (bare_length query.arms)) fits.some;
  few = subst (λ n. n ≤ 8) (sym (bare_length query.arms)) fits.few;
  slots = subst (λ n. n ≤ 64) (sym (bare_width query.arms)) fits.slots;
  equals = let none = bare_equals query.arms in omega arith;
  ranges = let none = bare_ranges query.arms in omega arith;
  arms = bare_fit 0 query.arms fits.arms;
  paths = bare_paths query.arms ∙ fits.paths;
  residual = ap (λ w. checks_are_within w query.residual) (bare_width query.arms) ∙ fits.residual;
  template = ap (λ w. template_is_within w query.template) (bare_width query.arms) ∙ fits.template;
}

pub bare_plan_is_well_formed : (query : NormalQuery) → IsWellFormed query → IsWellFormedExpr (bare_of query)
bare_plan_is_well_formed query fits = plan_is_well_formed (bare_query query) (bare_is_well_formed query fits)

pub bare_is_wide : (query : NormalQuery) → IsWellFormed query → expr_width (bare_of query) ≡ arms_width query.arms
bare_is_wide query fits = plan_is_wide (bare_query query) (bare_is_well_formed query fits) ∙ bare_width query.arms

-- how many demands there are, and where they are

equals_count : (offset : ℕ) (arms : List Arm) → length (equals_from offset arms) ≡ equals_in arms
equals_count offset [] = refl
equals_count offset (arm ∷ arms) =
    length-append (map (equal_behind offset) arm.equals) (equals_from (offset + arm_width arm) arms)
    ∙ (λ i. as_many arm.equals i + equals_count (offset + arm_width arm) arms i)
  where
    as_many : (equals : List EqualTo) → length (map (equal_behind offset) equals) ≡ length equals
    as_many [] = refl
    as_many (equal ∷ more) = let rest = as_many more in omega arith

ranges_count : (offset : ℕ) (arms : List Arm) → length (ranges_from offset arms) ≡ ranges_in arms
ranges_count offset [] = refl
ranges_count offset (arm ∷ arms) =
    length-append (map (range_behind offset) arm.ranges) (ranges_from (offset + arm_width arm) arms)
    ∙ (λ i. as_many arm.ranges i + ranges_count (offset + arm_width arm) arms i)
  where
    as_many : (ranges : List Within) → length (map (range_behind offset) ranges) ≡ length ranges
    as_many [] = refl
    as_many (range ∷ more) = let rest = as_many more in omega arith

-- demands of an arm are those of the query, behind its offset
equals_shifted : (whole offset width : ℕ) → offset + width ≤ whole → (equals : List EqualTo) → AllByRecursion (λ equal. equal.slot < width) equals
    → (more : List EqualTo) → AllByRecursion (λ equal. equal.slot < whole) more → AllByRecursion (λ equal. equal.slot < whole) (map (equal_behind offset) equals ++ more)
equals_shifted whole offset width within [] all more rest = rest
equals_shifted whole offset width within (equal ∷ equals) all more rest = (let below = all.0 in omega arith, equals_shifted whole offset width within equals all.1 more rest)

ranges_shifted : (whole offset width : ℕ) → offset + width ≤ whole → (ranges : List Within) → AllByRecursion (λ range. range.slot < width) ranges
    → (more : List Within) → AllByRecursion (λ range. range.slot < whole) more → AllByRecursion (λ range. range.slot < whole) (map (range_behind offset) ranges ++ more)
ranges_shifted whole offset width within [] all more rest = rest
ranges_shifted whole offset width within (range ∷ ranges) all more rest = (let below = all.0 in omega arith, ranges_shifted whole offset width within ranges all.1 more rest)

equals_there : (whole offset : ℕ) (arms : List Arm) → ArmsFit offset arms → offset + arms_width arms ≤ whole
    → AllByRecursion (λ equal. equal.slot < whole) (equals_from offset arms)
equals_there whole offset [] fits within = tt
equals_there whole offset (arm ∷ arms) fits within =
    equals_shifted whole offset (arm_width arm) (omega arith) arm.equals fits.0.equals (equals_from (offset + arm_width arm) arms)
    (equals_there whole (offset + arm_width arm) arms fits.1 (omega arith))

ranges_there : (whole offset : ℕ) (arms : List Arm) → ArmsFit offset arms → offset + arms_width arms ≤ whole
    → AllByRecursion (λ range. range.slot < whole) (ranges_from offset arms)
ranges_there whole offset [] fits within = tt
ranges_there whole offset (arm ∷ arms) fits within =
    ranges_shifted whole offset (arm_width arm) (omega arith) arm.ranges fits.0.ranges (ranges_from (offset + arm_width arm) arms)
    (ranges_there whole (offset + arm_width arm) arms fits.1 (omega arith))

-- the plan that joins first is well formed

module _ (query : NormalQuery) (fits : IsWellFormed query) where
  abbrev equals : List EqualTo
  equals = equals_from 0 query.arms

  abbrev ranges : List Within
  ranges = ranges_from 0 query.arms

  pub late_is_wide : expr_width (late_of query) ≡ arms_width query.arms
  late_is_wide = ranges_width ranges (with_equals (bare_of query) equals) ∙ equals_width equals (bare_of query) ∙ bare_is_wide query fits

  late_fits : slots_fit (late_of query) ≡ true
  late_fits =
      let wide = bare_is_wide query fits in
      ranges_fit ranges (with_equals (bare_of query) equals)
      (equals_fit equals (bare_of query) (bare_plan_is_well_formed query fits).slots
      (subst (λ w. AllByRecursion (λ equal. equal.slot < w) equals) (sym wide) (equals_there (arms_width query.arms) 0 query.arms fits.arms (omega arith))))
      (subst (λ w. AllByRecursion (λ range. range.slot < w) ranges) (sym (equals_width equals (bare_of query) ∙ wide)) (ranges_there (arms_width query.arms) 0 query.arms fits.arms (omega arith)))

  late_is_small : operators (late_of query) ≤ 256
  late_is_small =
      let r = ranges_operators ranges (with_equals (bare_of query) equals) in
      let e = equals_operators equals (bare_of query) in
      let b = plan_operators (bare_query query) (bare_is_well_formed query fits) in
      let arms = bare_length query.arms in
      let no_equals = bare_equals query.arms in
      let no_ranges = bare_ranges query.arms in
      let eight = fits.few in
      let many = equals_count 0 query.arms in
      let more = ranges_count 0 query.arms in
      let few = fits.equals in
      let fewer = fits.ranges in
      omega arith

  late_paths : paths_are_formed (late_of query) ≡ true
  late_paths =
      ranges_paths ranges (with_equals (bare_of query) equals)
      ∙ equals_paths equals (bare_of query)
      ∙ (bare_plan_is_well_formed query fits).paths

  pub late_is_well_formed : IsWellFormedExpr (late_of query)
  late_is_well_formed = record { small = late_is_small; slots = late_fits; paths = late_paths }

-- the rows

apart : (b p e es r rs : Bool) → (((true && true && p) && b) && (e && es)) && (r && rs) ≡ (e && r && p) && ((b && es) && rs)
apart b p e es r rs = grind arith

-- a row meets all arms where it meets their pairs, then all equalities, then all ranges
holds_apart : (row : Row) (offset : ℕ) (arms : List Arm)
    → ((arms_hold offset row (map bare_arm arms) && list_all (meets_equal row) (equals_from offset arms)) && list_all (meets_range row) (ranges_from offset arms)) ≡ arms_hold offset row arms
holds_apart row offset [] = refl
holds_apart row offset (arm ∷ arms) =
    (λ i. (arms_hold offset row (map bare_arm (arm ∷ arms)) && equals_parted i) && ranges_parted i)
    ∙ apart (arms_hold (offset + arm_width arm) row (map bare_arm arms)) (list_all (pair_holds offset row) arm.pairs) (list_all (equal_holds offset row) arm.equals)
    (list_all (meets_equal row) (equals_from (offset + arm_width arm) arms)) (list_all (range_holds offset row) arm.ranges) (list_all (meets_range row) (ranges_from (offset + arm_width arm) arms))
    ∙ ap (λ b. (list_all (equal_holds offset row) arm.equals && list_all (range_holds offset row) arm.ranges && list_all (pair_holds offset row) arm.pairs) && b) (holds_apart row (offset + arm_width arm) arms)
  where
    equals_parted : list_all (meets_equal row) (equals_from offset (arm ∷ arms))
        ≡ (list_all (equal_holds offset row) arm.equals && list_all (meets_equal row) (equals_from (offset + arm_width arm) arms))
    equals_parted =
        list_all-append (meets_equal row) (map (equal_behind offset) arm.equals) (equals_from (offset + arm_width arm) arms)
        ∙ ap (λ b. b && list_all (meets_equal row) (equals_from (offset + arm_width arm) arms)) (list_all-map (meets_equal row) (equal_behind offset) arm.equals)

    ranges_parted : list_all (meets_range row) (ranges_from offset (arm ∷ arms))
        ≡ (list_all (range_holds offset row) arm.ranges && list_all (meets_range row) (ranges_from (offset + arm_width arm) arms))
    ranges_parted =
        list_all-append (meets_range row) (map (range_behind offset) arm.ranges) (ranges_from (offset + arm_width arm) arms)
        ∙ ap (λ b. b && list_all (meets_range row) (ranges_from (offset + arm_width arm) arms)) (list_all-map (meets_range row) (range_behind offset) arm.ranges)

-- the rows of the plan that joins first are those of the plan that selects first, in the same order
module _ (query : NormalQuery) (world : World) (fits : IsWellFormed query) where
  -- all concatenations of one row of each arm
  abbrev all : List Row
  all = one_of_each (map (arm_rows world) query.arms)

  abbrev equals_hold : Row → Bool
  equals_hold row = list_all (meets_equal row) (equals_from 0 query.arms)

  abbrev ranges_hold : Row → Bool
  ranges_hold row = list_all (meets_range row) (ranges_from 0 query.arms)

  abbrev pairs_hold : Row → Bool
  pairs_hold row = arms_hold 0 row (map bare_arm query.arms)

  bare_rows : rows_in (bare_of query) world ≡ filter pairs_hold all
  bare_rows =
      plan_rows (bare_query query) world (bare_is_well_formed query fits)
      ∙ ap (λ lists. filter pairs_hold (one_of_each lists)) (map-map (arm_rows world) bare_arm query.arms)

  pub late_rows : rows_in (late_of query) world ≡ rows_in (plan_of query) world
  late_rows =
      ranges_rows world (ranges_from 0 query.arms) (with_equals (bare_of query) (equals_from 0 query.arms))
      ∙ ap (filter ranges_hold) (equals_rows world (equals_from 0 query.arms) (bare_of query))
      ∙ ap (λ rows. filter ranges_hold (filter equals_hold rows)) bare_rows
      ∙ ap (filter ranges_hold) (filter-filter pairs_hold equals_hold all)
      ∙ filter-filter (λ row. pairs_hold row && equals_hold row) ranges_hold all
      ∙ filter_alike (λ row. (pairs_hold row && equals_hold row) && ranges_hold row) (λ row. arms_hold 0 row query.arms) (λ row. holds_apart row 0 query.arms) all
      ∙ sym (plan_rows query world fits)

-- arm by arm

equals_one_by_one : (equals more : List EqualTo) (input : Expr) → with_equals (with_equals input equals) more ≡ with_equals input (equals ++ more)
equals_one_by_one [] more input = refl
equals_one_by_one (equal ∷ equals) more input = equals_one_by_one equals more (EqSel input equal.slot equal.constant)

ranges_one_by_one : (ranges more : List Within) (input : Expr) → with_ranges (with_ranges input ranges) more ≡ with_ranges input (ranges ++ more)
ranges_one_by_one [] more input = refl
ranges_one_by_one (range ∷ ranges) more input = ranges_one_by_one ranges more (RangeSel input range.slot range.interval)

-- from what is left of the arms to what is left behind one more of them
module _ (arms : List Arm) (at : ℕ) (arm : Arm) (here : at < length arms) (is : arm ≡ get_or arms at arm) (offset slots : ℕ) (wide : slots ≡ arm_width arm) where
  left : drop at arms ≡ arm ∷ drop (at + 1) arms
  left = drop_more arms at arm here ∙ ap (λ (a : Arm). a ∷ drop (at + 1) arms) (sym is)

  pub fit_next : ArmsFit offset (drop at arms) → ArmsFit (offset + slots) (drop (at + 1) arms)
  fit_next fits = subst (λ w. ArmsFit (offset + w) (drop (at + 1) arms)) (sym wide) (subst (ArmsFit offset) left fits).1

  pub within_next : offset + arms_width (drop at arms) ≤ 64 → (offset + slots) + arms_width (drop (at + 1) arms) ≤ 64
  within_next within = let parted : arms_width (drop at arms) ≡ arm_width arm + arms_width (drop (at + 1) arms) = ap arms_width left in omega (arith, wide)

  pub equals_next : (plan next : Expr) → next ≡ with_equals plan (map (equal_behind offset) arm.equals)
      → with_equals next (equals_from (offset + slots) (drop (at + 1) arms)) ≡ with_equals plan (equals_from offset (drop at arms))
  equals_next plan next made =
      (λ i. with_equals (made i) (equals_from (offset + wide i) (drop (at + 1) arms)))
      ∙ equals_one_by_one (map (equal_behind offset) arm.equals) (equals_from (offset + arm_width arm) (drop (at + 1) arms)) plan
      ∙ ap (λ rest. with_equals plan (equals_from offset rest)) (sym left)

  pub ranges_next : (plan next : Expr) → next ≡ with_ranges plan (map (range_behind offset) arm.ranges)
      → with_ranges next (ranges_from (offset + slots) (drop (at + 1) arms)) ≡ with_ranges plan (ranges_from offset (drop at arms))
  ranges_next plan next made =
      (λ i. with_ranges (made i) (ranges_from (offset + wide i) (drop (at + 1) arms)))
      ∙ ranges_one_by_one (map (range_behind offset) arm.ranges) (ranges_from (offset + arm_width arm) (drop (at + 1) arms)) plan
      ∙ ap (λ rest. with_ranges plan (ranges_from offset rest)) (sym left)
