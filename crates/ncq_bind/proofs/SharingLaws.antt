-- The arms and the residual of a normal query ask together what the constraints ask.
use Rattle.std.proofs.Common.{◌≡◌, ℕ, ◌+◌, ◌-◌, ◌<◌, ◌≤◌, Bool, true, false, List, [], ◌∷◌, length, map, refl, sym, ap, ◌∙◌, arith, length-append}
use Rattle.std.specs.Prelude.{◌&&◌, ◌||◌, not, nat_lt}
use Rattle.std.specs.List.{list_all, flat_map}
use Rattle.std.proofs.lemmas.Bool.Decides.{nat_tests}
use Rattle.ncq_base.specs.Atoms.{same_atom}
use Rattle.ncq_row.specs.declared.value.Value.{Value}
use Rattle.ncq_row.specs.Values.{atom_at}
use Rattle.ncq_row.specs.Widths.{width}
use Rattle.std.specs.List.{AllByRecursion}
use Rattle.ncq_bind.proofs.ListLaws.{each_of_all, all_agree, all-flat_map}
use Rattle.std.proofs.lemmas.List.Folds.{list_all-append}
use Rattle.ncq_plan.specs.declared.residual.Side.TheVariants.{Slot}
use Rattle.ncq_base.specs.Intervals.{in_interval}
use Rattle.ncq_plan.specs.Residuals.{check_holds, passes}
use Rattle.ncq_plan.specs.Relations.{Relations}
use Rattle.ncq_plan.specs.declared.residual.Check.TheVariants.{Compare}
use Rattle.ncq_plan.specs.Products.{equal_holds, range_holds, pair_holds, arm_holds, arms_hold}
use Rattle.ncq_base.specs.declared.atom.Op.TheVariants.{Eq}
use Rattle.ncq_bind.specs.declared.open_arm.OpenArm.{OpenArm}
use Rattle.ncq_bind.specs.declared.constraint.Constraint.{Constraint}
use Rattle.ncq_bind.specs.declared.constraint.Constraint.TheVariants.{Equal, Bound, Alike, Other}
use Rattle.ncq_bind.specs.Places.{places, shape_of}
use Rattle.ncq_bind.specs.Answers.{QueryArm, places_of}
use Rattle.ncq_bind.specs.NormalArms.{in_arm, equal_in, range_in, pair_in, open_arms, normal_arm}
use Rattle.ncq_bind.specs.Ranges.{one_sided}
use Rattle.ncq_bind.specs.NormalQueries.{in_one_arm, inner_check, other_check, residual_of}
use Rattle.std.proofs.Math.Bool.{and-true, and_assoc}
use Rattle.ncq_base.proofs.Tests.{both_true}
use Rattle.ncq_bind.proofs.Bools.{asked_by_either, all_of_if, all_split}
use Rattle.ncq_bind.proofs.SortedLaws.{all-equals, all-ranges, all-pairs}
use Rattle.ncq_bind.proofs.ConstraintLaws.{constraint_holds, InRange}
use Rattle.ncq_bind.proofs.Widths.{width_of}

-- the arm with this offset and width takes the constraint
abbrev takes : ℕ → ℕ → Constraint → Bool
takes offset width (Equal slot constant) = in_arm offset width slot
takes offset width (Bound slot op number) = in_arm offset width slot
takes offset width (Alike left right) = nat_lt left offset && in_arm offset width right
takes offset width (Other test) = false

-- one of the arms takes it
abbrev taken : ℕ → List QueryArm → Constraint → Bool
taken offset [] c = false
taken offset (arm ∷ arms) c = takes offset (length (places arm.pattern)) c || taken (offset + length (places arm.pattern)) arms c

-- it is left to the residual
abbrev left_over : List OpenArm → Constraint → Bool
left_over arms (Equal slot constant) = false
left_over arms (Bound slot op number) = false
left_over arms (Alike left right) = in_one_arm arms left right
left_over arms (Other test) = true

-- the arm at this offset
abbrev open_arm : ℕ → QueryArm → OpenArm
open_arm offset arm = record { source = arm.source; shape = shape_of arm.pattern; offset = offset; width = length (places arm.pattern) }

-- ---- arms

behind : (offset width slot : ℕ) → in_arm offset width slot ≡ true → offset + (slot - offset) ≡ slot
behind offset width slot e = let h : offset ≤ slot = grind (arith, nat_tests) in omega arith

behind_pair : (offset width left right : ℕ) → (nat_lt left offset && in_arm offset width right) ≡ true → offset + (right - offset) ≡ right
behind_pair offset width left right e = behind offset width right (both_true (nat_lt left offset) (in_arm offset width right) e).1

module _ (relations : Relations) (row : List Value) where
  one_holds : (offset width : ℕ) (c : Constraint)
      → (list_all (equal_holds offset row) (equal_in offset width c) && (list_all (range_holds offset row) (range_in offset width c) && list_all (pair_holds offset row) (pair_in offset width c)))
      ≡ (not (takes offset width c) || constraint_holds relations row c)
  one_holds offset width (Equal slot constant) =
      and-true (list_all (equal_holds offset row) (equal_in offset width (Equal slot constant)))
      ∙ all_of_if (equal_holds offset row) (in_arm offset width slot) (record { slot = slot - offset; constant = constant }) (same_atom (atom_at row slot) constant)
      (λ e. ap (λ s. same_atom (atom_at row s) constant) (behind offset width slot e))
  one_holds offset width (Bound slot op number) =
      and-true (list_all (range_holds offset row) (range_in offset width (Bound slot op number)))
      ∙ all_of_if (range_holds offset row) (in_arm offset width slot) (record { slot = slot - offset; interval = one_sided op number }) (in_interval (one_sided op number) (atom_at row slot))
      (λ e. ap (λ s. in_interval (one_sided op number) (atom_at row s)) (behind offset width slot e))
  one_holds offset width (Alike left right) =
      all_of_if (pair_holds offset row) (nat_lt left offset && in_arm offset width right) (record { left = left; right = right - offset }) (same_atom (atom_at row left) (atom_at row right))
      (λ e. ap (λ s. same_atom (atom_at row left) (atom_at row s)) (behind_pair offset width left right e))
  one_holds offset width (Other test) = refl

  arm_is : (constraints : List Constraint) (arm : OpenArm)
      → arm_holds arm.offset row (normal_arm constraints arm) ≡ list_all (λ c. not (takes arm.offset arm.width c) || constraint_holds relations row c) constraints
  arm_is constraints arm =
      let offset = arm.offset in
      let w = arm.width in
      and_assoc (list_all (equal_holds offset row) (normal_arm constraints arm).equals) (list_all (range_holds offset row) (normal_arm constraints arm).ranges) (list_all (pair_holds offset row) (normal_arm constraints arm).pairs)
      ∙ (λ i. (all-equals offset row (flat_map (equal_in offset w) constraints) ∙ all-flat_map (equal_holds offset row) (equal_in offset w) constraints) i
      && ((all-ranges offset row (flat_map (range_in offset w) constraints) ∙ all-flat_map (range_holds offset row) (range_in offset w) constraints) i
      && (all-pairs offset row (flat_map (pair_in offset w) constraints) ∙ all-flat_map (pair_holds offset row) (pair_in offset w) constraints) i))
      ∙ sym (all_split (λ c. list_all (equal_holds offset row) (equal_in offset w c)) (λ c. list_all (range_holds offset row) (range_in offset w c) && list_all (pair_holds offset row) (pair_in offset w c)) constraints
      ∙ ap (λ v. list_all (λ c. list_all (equal_holds offset row) (equal_in offset w c)) constraints && v)
      (all_split (λ c. list_all (range_holds offset row) (range_in offset w c)) (λ c. list_all (pair_holds offset row) (pair_in offset w c)) constraints))
      ∙ all_agree (λ c. list_all (equal_holds offset row) (equal_in offset w c) && (list_all (range_holds offset row) (range_in offset w c) && list_all (pair_holds offset row) (pair_in offset w c)))
      (λ c. not (takes offset w c) || constraint_holds relations row c) constraints
      (each_of_all (λ c. (list_all (equal_holds offset row) (equal_in offset w c) && (list_all (range_holds offset row) (range_in offset w c) && list_all (pair_holds offset row) (pair_in offset w c)))
      ≡ (not (takes offset w c) || constraint_holds relations row c)) (one_holds offset w) constraints)

  -- constraints that are asked for on two grounds
  either : (constraints : List Constraint) (s t : Constraint → Bool)
      → (list_all (λ c. not (s c) || constraint_holds relations row c) constraints && list_all (λ c. not (t c) || constraint_holds relations row c) constraints)
      ≡ list_all (λ c. not (s c || t c) || constraint_holds relations row c) constraints
  either constraints s t =
      sym (all_split (λ c. not (s c) || constraint_holds relations row c) (λ c. not (t c) || constraint_holds relations row c) constraints)
      ∙ all_agree (λ c. (not (s c) || constraint_holds relations row c) && (not (t c) || constraint_holds relations row c)) (λ c. not (s c || t c) || constraint_holds relations row c) constraints
      (each_of_all (λ c. ((not (s c) || constraint_holds relations row c) && (not (t c) || constraint_holds relations row c)) ≡ (not (s c || t c) || constraint_holds relations row c))
      (λ c. asked_by_either (s c) (t c) (constraint_holds relations row c)) constraints)

  all_true : (constraints : List Constraint) → true ≡ list_all (λ (c : Constraint). true) constraints
  all_true [] = refl
  all_true (c ∷ constraints) = all_true constraints

  arms_are : (constraints : List Constraint) (offset : ℕ) (arms : List QueryArm)
      → arms_hold offset row (map (normal_arm constraints) (open_arms offset arms)) ≡ list_all (λ c. not (taken offset arms c) || constraint_holds relations row c) constraints
  arms_are constraints offset [] = all_true constraints
  arms_are constraints offset (arm ∷ arms) =
      let w = length (places arm.pattern) in
      (λ i. arm_is constraints (open_arm offset arm) i
      && (ap (λ n. arms_hold (offset + n) row (map (normal_arm constraints) (open_arms (offset + w) arms))) (width_of arm.pattern) ∙ arms_are constraints (offset + w) arms) i)
      ∙ either constraints (takes offset w) (taken (offset + w) arms)

  -- ---- the residual

  left_holds : (arms : List OpenArm) (c : Constraint) → (list_all (check_holds relations row) (inner_check arms c) && list_all (check_holds relations row) (other_check c)) ≡ (not (left_over arms c) || constraint_holds relations row c)
  left_holds arms (Equal slot constant) = refl
  left_holds arms (Bound slot op number) = refl
  left_holds arms (Alike left right) =
      and-true (list_all (check_holds relations row) (inner_check arms (Alike left right)))
      ∙ all_of_if (check_holds relations row) (in_one_arm arms left right) (Compare (record { op = Eq; left = left; right = Slot right })) (same_atom (atom_at row left) (atom_at row right)) (λ e. refl)
  left_holds arms (Other check) = and-true (check_holds relations row check)

  residual_is : (arms : List OpenArm) (constraints : List Constraint)
      → passes relations (residual_of arms constraints) row ≡ list_all (λ c. not (left_over arms c) || constraint_holds relations row c) constraints
  residual_is arms constraints =
      list_all-append (check_holds relations row) (flat_map (inner_check arms) constraints) (flat_map other_check constraints)
      ∙ (λ i. all-flat_map (check_holds relations row) (inner_check arms) constraints i && all-flat_map (check_holds relations row) other_check constraints i)
      ∙ sym (all_split (λ c. list_all (check_holds relations row) (inner_check arms c)) (λ c. list_all (check_holds relations row) (other_check c)) constraints)
      ∙ all_agree (λ c. list_all (check_holds relations row) (inner_check arms c) && list_all (check_holds relations row) (other_check c)) (λ c. not (left_over arms c) || constraint_holds relations row c) constraints
      (each_of_all (λ c. (list_all (check_holds relations row) (inner_check arms c) && list_all (check_holds relations row) (other_check c)) ≡ (not (left_over arms c) || constraint_holds relations row c)) (left_holds arms) constraints)

-- ---- nothing is lost

count_of : (arm : QueryArm) (arms : List QueryArm) → length (places_of (arm ∷ arms)) ≡ length (places arm.pattern) + length (places_of arms)
count_of arm arms = length-append (places arm.pattern) (places_of arms)

in_first : (offset width slot : ℕ) → offset ≤ slot → slot < offset + width → in_arm offset width slot ≡ true
in_first offset width slot h k = grind (arith, nat_tests)

or_true : (b : Bool) → (b || true) ≡ true
or_true true = refl
or_true false = refl

-- by cases on whether the slot lies in the first arm
pub first_or_later : (offset width slot : ℕ) (P : Type 0) → (slot < offset + width → P) → (offset + width ≤ slot → P) → P
first_or_later offset width slot P early late = by_test (nat_lt slot (offset + width)) refl
  where
    by_test : (b : Bool) → nat_lt slot (offset + width) ≡ b → P
    by_test true e = early (grind (arith, nat_tests))
    by_test false e = late (grind (arith, nat_tests))

left_true : (a b : Bool) → a ≡ true → (a || b) ≡ true
left_true a b e = ap (λ v. v || b) e

right_true : (a b : Bool) → b ≡ true → (a || b) ≡ true
right_true a b e = ap (λ v. a || v) e ∙ or_true a

slot_taken : (offset slot : ℕ) (arms : List QueryArm) (c : Constraint) → ((o w : ℕ) → takes o w c ≡ in_arm o w slot) → offset ≤ slot → slot < offset + length (places_of arms) → taken offset arms c ≡ true
slot_taken offset slot [] c is h k = absurd (omega arith)
slot_taken offset slot (arm ∷ arms) c is h k =
    let w = length (places arm.pattern) in
    let all : length (places_of (arm ∷ arms)) ≡ length (places arm.pattern) + length (places_of arms) = count_of arm arms in
    first_or_later offset (length (places arm.pattern)) slot (taken offset (arm ∷ arms) c ≡ true)
    (λ early. left_true (takes offset w c) (taken (offset + w) arms c) (is offset w ∙ in_first offset (length (places arm.pattern)) slot h early))
    (λ late. right_true (takes offset w c) (taken (offset + w) arms c) (slot_taken (offset + w) slot arms c is late (omega arith)))

-- either of two pairs
pair_covered : (a b c d : Bool) → ((a || c) ≡ true) → ((a || b) || (c || d)) ≡ true
pair_covered true b c d e = refl
pair_covered false true c d e = refl
pair_covered false false true d e = refl
pair_covered false false false d e = absurd cc

later_covered : (a b c d : Bool) → ((b || d) ≡ true) → ((a || b) || (c || d)) ≡ true
later_covered true b c d e = refl
later_covered false true c d e = refl
later_covered false false true d e = refl
later_covered false false false d e = e

first_covered : (offset width left right : ℕ) → left ≤ right → offset ≤ right → right < offset + width
    → ((nat_lt left offset && in_arm offset width right) || (in_arm offset width left && in_arm offset width right)) ≡ true
first_covered offset width left right h k l = grind (arith, nat_tests)

alike_covered : (offset left right : ℕ) (arms : List QueryArm) → left ≤ right → offset ≤ right → right < offset + length (places_of arms)
    → (taken offset arms (Alike left right) || in_one_arm (open_arms offset arms) left right) ≡ true
alike_covered offset left right [] h k l = absurd (omega arith)
alike_covered offset left right (arm ∷ arms) h k l =
    let w = length (places arm.pattern) in
    let all : length (places_of (arm ∷ arms)) ≡ length (places arm.pattern) + length (places_of arms) = count_of arm arms in
    first_or_later offset (length (places arm.pattern)) right ((taken offset (arm ∷ arms) (Alike left right) || in_one_arm (open_arms offset (arm ∷ arms)) left right) ≡ true)
    (λ early. pair_covered (takes offset w (Alike left right)) (taken (offset + w) arms (Alike left right)) (in_arm offset w left && in_arm offset w right) (in_one_arm (open_arms (offset + w) arms) left right)
    (first_covered offset w left right h k early))
    (λ late. later_covered (takes offset w (Alike left right)) (taken (offset + w) arms (Alike left right)) (in_arm offset w left && in_arm offset w right) (in_one_arm (open_arms (offset + w) arms) left right)
    (alike_covered (offset + w) left right arms h late (omega arith)))

covered : (arms : List QueryArm) (c : Constraint) → InRange (length (places_of arms)) c → (taken 0 arms c || left_over (open_arms 0 arms) c) ≡ true
covered arms (Equal slot constant) h = left_true (taken 0 arms (Equal slot constant)) false (slot_taken 0 slot arms (Equal slot constant) (λ o w. refl) (omega arith) (omega arith))
covered arms (Bound slot op number) h = left_true (taken 0 arms (Bound slot op number)) false (slot_taken 0 slot arms (Bound slot op number) (λ o w. refl) (omega arith) (omega arith))
covered arms (Alike left right) h = alike_covered 0 left right arms h.0 (omega arith) (omega arith)
covered arms (Other test) h = or_true (taken 0 arms (Other test))

asked : (relations : Relations) (row : List Value) (arms : List QueryArm) (constraints : List Constraint) → AllByRecursion (InRange (length (places_of arms))) constraints
    → list_all (λ c. not (taken 0 arms c || left_over (open_arms 0 arms) c) || constraint_holds relations row c) constraints ≡ list_all (constraint_holds relations row) constraints
asked relations row arms [] e = refl
asked relations row arms (c ∷ constraints) e = λ i. (not (covered arms c e.0 i) || constraint_holds relations row c) && asked relations row arms constraints e.1 i

-- the arms and the residual ask what the constraints ask
pub shared : (relations : Relations) (row : List Value) (arms : List QueryArm) (constraints : List Constraint) → AllByRecursion (InRange (length (places_of arms))) constraints
    → (arms_hold 0 row (map (normal_arm constraints) (open_arms 0 arms)) && passes relations (residual_of (open_arms 0 arms) constraints) row) ≡ list_all (constraint_holds relations row) constraints
shared relations row arms constraints e =
    (λ i. arms_are relations row constraints 0 arms i && residual_is relations row (open_arms 0 arms) constraints i) ∙ either relations row constraints (taken 0 arms) (left_over (open_arms 0 arms)) ∙ asked relations row arms constraints e
