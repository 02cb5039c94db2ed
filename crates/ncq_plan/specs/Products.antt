-- The rows of a query, as it is written: a product of all arms, with no plan and no order of work.
use Rattle.std.specs.Prelude.{ℕ, ◌+◌, Bool, true, ◌&&◌, List, [], ◌∷◌, map}
use Rattle.std.specs.List.{filter, list_all}
use Rattle.ncq_base.specs.Atoms.{same_atom}
use Rattle.ncq_row.specs.Embeddings.{Row, one_of_each}
use Rattle.ncq_row.specs.Widths.{width}
use Rattle.ncq_row.specs.Values.{atom_at}
use Rattle.ncq_row.specs.declared.pair.Pair.{Pair}
use Rattle.ncq_plan.specs.declared.query.Arm.{Arm}
use Rattle.ncq_plan.specs.declared.query.EqualTo.{EqualTo}
use Rattle.ncq_plan.specs.declared.query.Within.{Within}
use Rattle.ncq_plan.specs.declared.query.NormalQuery.{NormalQuery}
use Rattle.ncq_base.specs.Intervals.{in_interval}
use Rattle.ncq_plan.specs.Relations.{Relations}
use Rattle.ncq_plan.specs.Residuals.{passes}
use Rattle.ncq_plan.specs.Exprs.{World, scan_rows}

abbrev pub arm_width : Arm → ℕ
arm_width arm = width arm.shape

-- the slot of an arm, behind the arm's offset, has the constant's atom
abbrev pub equal_holds : ℕ → Row → EqualTo → Bool
equal_holds offset row equal = same_atom (atom_at row (offset + equal.slot)) equal.constant

-- the slot of an arm, behind the arm's offset, is in the interval
abbrev pub range_holds : ℕ → Row → Within → Bool
range_holds offset row range = in_interval range.interval (atom_at row (offset + range.slot))

-- the two slots have the same atom: the left one is a slot of the query, the right one stands
-- behind the arm's offset
abbrev pub pair_holds : ℕ → Row → Pair → Bool
pair_holds offset row pair = same_atom (atom_at row pair.left) (atom_at row (offset + pair.right))

-- a row meets the equalities, the ranges and the pairs of an arm at this offset
abbrev pub arm_holds : ℕ → Row → Arm → Bool
arm_holds offset row arm =
    list_all (equal_holds offset row) arm.equals
    && list_all (range_holds offset row) arm.ranges
    && list_all (pair_holds offset row) arm.pairs

-- and so for each of the arms, the first of them at this offset
abbrev pub arms_hold : ℕ → Row → List Arm → Bool
arms_hold offset row [] = true
arms_hold offset row (arm ∷ arms) =
    arm_holds offset row arm && arms_hold (offset + arm_width arm) row arms

-- a row of the query meets all its equalities, ranges, pairs and checks, with these relations
abbrev pub meets : Relations → NormalQuery → Row → Bool
meets relations query row = arms_hold 0 row query.arms && passes relations query.residual row

-- the rows of an arm's shape in the elements of its source
abbrev pub arm_rows : World → Arm → List Row
arm_rows world arm = scan_rows arm.shape (world arm.source)

-- all concatenations of one row of each arm that meet the query
abbrev pub prod : Relations → NormalQuery → World → List Row
prod relations query world =
    filter (meets relations query) (one_of_each (map (arm_rows world) query.arms))
