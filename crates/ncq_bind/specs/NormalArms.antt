-- The arms of a normal query: each takes its own out of what the query asks.
use Rattle.std.specs.Prelude.{ℕ, ◌+◌, ◌-◌, Bool, ◌&&◌, nat_lt, nat_le, if◌then◌else◌}
use Rattle.std.specs.Prelude.{List, [], ◌∷◌, length}
use Rattle.std.specs.List.{flat_map}
use Rattle.ncq_row.specs.declared.pair.Pair.{Pair}
use Rattle.ncq_plan.specs.declared.query.EqualTo.{EqualTo}
use Rattle.ncq_plan.specs.declared.query.Within.{Within}
use Rattle.ncq_plan.specs.declared.query.Arm.{Arm}
use Rattle.ncq_bind.specs.declared.open_arm.OpenArm.{OpenArm}
use Rattle.ncq_bind.specs.declared.constraint.Constraint.{Constraint}
use Rattle.ncq_bind.specs.declared.constraint.Constraint.TheVariants.{Equal, Bound, Alike, Other}
use Rattle.ncq_bind.specs.Places.{places, shape_of}
use Rattle.ncq_bind.specs.Answers.{QueryArm}
use Rattle.ncq_bind.specs.Ranges.{one_sided, ranges_onto}
use Rattle.ncq_bind.specs.Sorted.{sorted_onto, equal_order, pair_order}

-- whether a slot of the query is one of the arm with this offset and width
abbrev pub in_arm : ℕ → ℕ → ℕ → Bool
in_arm offset width slot = nat_le offset slot && nat_lt slot (offset + width)

-- the slot of the arm that has to have a constant
abbrev pub equal_in : ℕ → ℕ → Constraint → List EqualTo
equal_in offset width (Equal slot constant) =
    if in_arm offset width slot
    then record { slot = slot - offset; constant = constant } ∷ [] else []
equal_in offset width (Bound slot op number) = []
equal_in offset width (Alike left right) = []
equal_in offset width (Other test) = []

-- the slot of the arm that has to be on one side of a number
abbrev pub range_in : ℕ → ℕ → Constraint → List Within
range_in offset width (Bound slot op number) =
    if in_arm offset width slot
    then record { slot = slot - offset; interval = one_sided op number } ∷ [] else []
range_in offset width (Equal slot constant) = []
range_in offset width (Alike left right) = []
range_in offset width (Other test) = []

-- two slots are tied by the arm that has the right one, where the left one lies in an arm before
abbrev pub pair_in : ℕ → ℕ → Constraint → List Pair
pair_in offset width (Alike left right) =
    if nat_lt left offset && in_arm offset width right
    then record { left = left; right = right - offset } ∷ [] else []
pair_in offset width (Equal slot constant) = []
pair_in offset width (Bound slot op number) = []
pair_in offset width (Other test) = []

-- the arms with their shapes and their slots, the first at this offset
abbrev pub open_arms : ℕ → List QueryArm → List OpenArm
open_arms offset [] = []
open_arms offset (arm ∷ arms) =
    let width = length (places arm.pattern) in
    record {
      source = arm.source;
      shape = shape_of arm.pattern;
      offset = offset;
      width = width;
    } ∷ open_arms (offset + width) arms

-- the arm under these constraints
abbrev pub normal_arm : List Constraint → OpenArm → Arm
normal_arm constraints arm = record {
  source = arm.source;
  shape = arm.shape;
  equals = sorted_onto equal_order [] (flat_map (equal_in arm.offset arm.width) constraints);
  ranges = ranges_onto [] (flat_map (range_in arm.offset arm.width) constraints);
  pairs = sorted_onto pair_order [] (flat_map (pair_in arm.offset arm.width) constraints);
}
