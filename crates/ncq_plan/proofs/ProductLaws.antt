-- The rows of a query's plan that pass the residual are the rows of the query.
use Rattle.std.proofs.Common.{◌≡◌, ℕ, ◌+◌, ◌<◌, ◌≤◌, ◌&&◌, true, false, cond, List, [], ◌∷◌, ◌++◌, length, length-append, map, refl, sym, ◌∙◌, ap, subst, append_assoc, arith}
use Rattle.std.specs.List.{filter, AllByRecursion}
use Rattle.std.proofs.lemmas.List.{get_or_append_left, get_or-append-add}
use Rattle.ncq_base.specs.declared.atom.Atom.{Atom}
use Rattle.ncq_base.specs.Atoms.{same_atom}
use Rattle.ncq_row.specs.declared.value.Value.TheVariants.{Text}
use Rattle.ncq_row.specs.Embeddings.{Row, one_of_each}
use Rattle.ncq_row.specs.Values.{value_atom, atom_at}
use Rattle.ncq_row.specs.declared.pair.Pair.{Pair}
use Rattle.ncq_plan.specs.declared.query.Arm.{Arm}
use Rattle.ncq_plan.specs.declared.query.EqualTo.{EqualTo}
use Rattle.ncq_plan.specs.declared.query.Within.{Within}
use Rattle.ncq_plan.specs.declared.query.NormalQuery.{NormalQuery}
use Rattle.ncq_base.specs.Intervals.{in_interval}
use Rattle.ncq_plan.specs.Meets.{pair_agrees, agree}
use Rattle.ncq_plan.specs.Exprs.{World, rows_in}
use Rattle.ncq_plan.specs.Plans.{arms_plan, plan_of}
use Rattle.ncq_plan.specs.Products.{arm_width, equal_holds, range_holds, pair_holds, arm_holds, arms_hold, arm_rows, prod}
use Rattle.ncq_plan.specs.Relations.{Relations}
use Rattle.ncq_plan.specs.Residuals.{passes}
use Rattle.ncq_plan.specs.WellFormed.{ArmFits, ArmsFit, IsWellFormed}
use Rattle.ncq_plan.proofs.Lists.{map_itself, filter_alike, filter_none, filter-filter, filter-map, filter-flat_map, map-flat_map, map-map, flat_map_each, list_all_each}
use Rattle.ncq_plan.proofs.PlanLaws.{meets_equal, meets_range, meets_arm, rows_behind, by_first, behind, arms_rows}
use Rattle.ncq_plan.proofs.WidthLaws.{wide_scan}

-- the atom of a slot of the row in front
atom_left : (row rest : Row) (slot : ℕ) → slot < length row → atom_at (row ++ rest) slot ≡ atom_at row slot
atom_left row rest slot within = ap value_atom (get_or_append_left row rest (Text []) slot within)

-- the atom of a slot behind the row in front
atom_right : (row rest : Row) (slot : ℕ) → atom_at (row ++ rest) (length row + slot) ≡ atom_at rest slot
atom_right row rest slot = ap value_atom (get_or-append-add row rest slot (Text []))

-- slots below a width are below the length of a row of that width
within_width : {A : Type 0} (slot_of : A → ℕ) (width long : ℕ) → long ≡ width → (items : List A) → AllByRecursion (λ item. slot_of item < width) items → AllByRecursion (λ item. slot_of item < long) items
within_width slot_of width long e items all = subst (λ w. AllByRecursion (λ item. slot_of item < w) items) (sym e) all

module _ (before row rest : Row) where
  -- the atom of a slot of the row in the middle
  atom_middle : (slot : ℕ) → slot < length row → atom_at (before ++ (row ++ rest)) (length before + slot) ≡ atom_at row slot
  atom_middle slot within = atom_right before (row ++ rest) slot ∙ atom_left row rest slot within

  equal_same : (equal : EqualTo) → equal.slot < length row → equal_holds (length before) (before ++ (row ++ rest)) equal ≡ meets_equal row equal
  equal_same equal within = ap (λ (a : Atom). same_atom a equal.constant) (atom_middle equal.slot within)

  range_same : (range : Within) → range.slot < length row → range_holds (length before) (before ++ (row ++ rest)) range ≡ meets_range row range
  range_same range within = ap (in_interval range.interval) (atom_middle range.slot within)

  pair_same : (pair : Pair) → (pair.left < length before) × (pair.right < length row) → pair_holds (length before) (before ++ (row ++ rest)) pair ≡ pair_agrees before row pair
  pair_same pair within = λ i. same_atom (atom_left before (row ++ rest) pair.left within.0 i) (atom_middle pair.right within.1 i)

  both_sides : (pairs : List Pair) → AllByRecursion (λ pair. pair.left < length before) pairs → AllByRecursion (λ pair. pair.right < length row) pairs
      → AllByRecursion (λ pair. (pair.left < length before) × (pair.right < length row)) pairs
  both_sides [] l r = tt
  both_sides (pair ∷ pairs) l r = ((l.0, r.0), both_sides pairs l.1 r.1)

  -- what the whole row meets of an arm at its offset, the arm's row meets behind the row before
  arm_same : (arm : Arm) → length row ≡ arm_width arm → ArmFits (length before) arm → arm_holds (length before) (before ++ (row ++ rest)) arm ≡ (meets_arm arm row && agree arm.pairs before row)
  arm_same arm wide fits =
      λ i.
      list_all_each (equal_holds (length before) (before ++ (row ++ rest))) (meets_equal row) (λ equal. equal.slot < length row) equal_same arm.equals (within_width (λ equal. equal.slot) (arm_width arm) (length row) wide arm.equals fits.equals) i
      && list_all_each (range_holds (length before) (before ++ (row ++ rest))) (meets_range row) (λ range. range.slot < length row) range_same arm.ranges (within_width (λ range. range.slot) (arm_width arm) (length row) wide arm.ranges fits.ranges) i
      && list_all_each (pair_holds (length before) (before ++ (row ++ rest))) (pair_agrees before row) (λ pair. (pair.left < length before) × (pair.right < length row)) pair_same arm.pairs
      (both_sides arm.pairs fits.lefts (within_width (λ pair. pair.right) (arm_width arm) (length row) wide arm.pairs fits.rights)) i

module _ (world : World) where
  -- the rows of the arms that hold behind a row, each behind that row
  abbrev holding : List Arm → Row → List Row
  holding arms before = filter (λ row. arms_hold (length before) row arms) (map (λ rest. before ++ rest) (one_of_each (map (arm_rows world) arms)))

  module _ (arm : Arm) (arms : List Arm) (before : Row) (fits : ArmFits (length before) arm) where
    -- the rows of the further arms
    abbrev further : List Row
    further = one_of_each (map (arm_rows world) arms)

    holds_behind : (row rest : Row) → length row ≡ arm_width arm
        → arms_hold (length before) (before ++ (row ++ rest)) (arm ∷ arms) ≡ ((meets_arm arm row && agree arm.pairs before row) && arms_hold (length (before ++ row)) ((before ++ row) ++ rest) arms)
    holds_behind row rest wide =
        let longer : length before + arm_width arm ≡ length (before ++ row) = sym (length-append before row ∙ ap (λ w. length before + w) wide) in
        λ i. arm_same before row rest arm wide fits i && arms_hold (longer i) (sym (append_assoc before row rest) i) arms

    one_row : (row : Row) → length row ≡ arm_width arm
        → filter (λ row. arms_hold (length before) row (arm ∷ arms)) (map (λ rest. before ++ rest) (map (λ rest. row ++ rest) further))
        ≡ cond (meets_arm arm row && agree arm.pairs before row) (holding arms (before ++ row)) []
    one_row row wide =
        ap (filter (λ row. arms_hold (length before) row (arm ∷ arms))) (map-map (λ rest. before ++ rest) (λ rest. row ++ rest) further)
        ∙ filter-map (λ row. arms_hold (length before) row (arm ∷ arms)) (λ rest. before ++ (row ++ rest)) further
        ∙ ap (map (λ rest. before ++ (row ++ rest))) (filter_alike _ (λ rest. (meets_arm arm row && agree arm.pairs before row) && arms_hold (length (before ++ row)) ((before ++ row) ++ rest) arms) (λ rest. holds_behind row rest wide) further)
        ∙ elim (meets_arm arm row && agree arm.pairs before row) as (λ t.
        map (λ rest. before ++ (row ++ rest)) (filter (λ rest. t && arms_hold (length (before ++ row)) ((before ++ row) ++ rest) arms) further) ≡ cond t (holding arms (before ++ row)) []) [
          | true ↦
              (λ i. map (λ rest. sym (append_assoc before row rest) i) (filter (λ rest. arms_hold (length (before ++ row)) ((before ++ row) ++ rest) arms) further))
              ∙ sym (filter-map (λ whole. arms_hold (length (before ++ row)) whole arms) (λ rest. (before ++ row) ++ rest) further)
          | false ↦ ap (map (λ rest. before ++ (row ++ rest))) (filter_none further)
        ]

  -- testing whole rows at once is testing each arm's row as it comes
  same_products : (arms : List Arm) (before : Row) → ArmsFit (length before) arms → holding arms before ≡ rows_behind world arms before
  same_products [] before fits = refl
  same_products (arm ∷ arms) before fits =
      ap (filter (λ row. arms_hold (length before) row (arm ∷ arms)))
      (map-flat_map (λ rest. before ++ rest) (λ row. map (λ rest. row ++ rest) (one_of_each (map (arm_rows world) arms))) (arm_rows world arm))
      ∙ filter-flat_map (λ row. arms_hold (length before) row (arm ∷ arms)) (λ row. map (λ rest. before ++ rest) (map (λ rest. row ++ rest) (one_of_each (map (arm_rows world) arms)))) (arm_rows world arm)
      ∙ flat_map_each _ (by_first world arm arms before) (λ row. length row ≡ arm_width arm)
      (λ row wide.
      one_row arm arms before fits.0 row wide
      ∙ ap (λ rows. cond (meets_arm arm row && agree arm.pairs before row) rows [])
      (same_products arms (before ++ row) (subst (λ w. ArmsFit w arms) (sym (length-append before row ∙ ap (λ w. length before + w) wide)) fits.1)))
      (arm_rows world arm) (wide_scan arm.shape (world arm.source))
      ∙ sym (behind world arm arms before)

-- pairs whose left slots are below 0 are none
no_pairs : (pairs : List Pair) → AllByRecursion (λ pair. pair.left < 0) pairs → pairs ≡ []
no_pairs [] h = refl
no_pairs (pair ∷ pairs) h = let below = h.0 in absurd (omega arith)

-- the rows of the plan are those concatenations that meet all arms
pub plan_rows : (query : NormalQuery) (world : World) → IsWellFormed query
    → rows_in (plan_of query) world ≡ filter (λ row. arms_hold 0 row query.arms) (one_of_each (map (arm_rows world) query.arms))
plan_rows query world fits = by query.arms fits.some fits.arms
  where
    by : (arms : List Arm) → 1 ≤ length arms → ArmsFit 0 arms → rows_in (arms_plan arms) world ≡ filter (λ row. arms_hold 0 row arms) (one_of_each (map (arm_rows world) arms))
    by [] some fit = absurd (omega arith)
    by (arm ∷ arms) some fit =
        arms_rows world arm arms (no_pairs arm.pairs fit.0.lefts)
        ∙ sym (same_products world (arm ∷ arms) [] fit)
        ∙ ap (filter (λ row. arms_hold 0 row (arm ∷ arms))) (map_itself (one_of_each (map (arm_rows world) (arm ∷ arms))))

-- the rows of the plan that pass the residual are those of the query
pub plan_gives_the_rows : (relations : Relations) (query : NormalQuery) (world : World) → IsWellFormed query
    → filter (passes relations query.residual) (rows_in (plan_of query) world) ≡ prod relations query world
plan_gives_the_rows relations query world fits =
    ap (filter (passes relations query.residual)) (plan_rows query world fits)
    ∙ filter-filter (λ row. arms_hold 0 row query.arms) (passes relations query.residual) (one_of_each (map (arm_rows world) query.arms))
