-- The normal query of a well formed query whose variables have places is well formed.
use Rattle.std.proofs.Common.{◌≡◌, ℕ, suc, ◌+◌, ◌-◌, ◌<◌, ◌≤◌, Bool, true, false, List, [], ◌∷◌, ◌++◌, length, map, refl, sym, ap, ◌∙◌, subst, arith, length-append}
use Rattle.std.specs.Prelude.{◌&&◌, ◌||◌, ◌==◌, min, max, nat_lt, not, if◌then◌else◌}
use Rattle.std.specs.List.{list_all, flat_map, sum_by}
use Rattle.std.proofs.lemmas.Bool.{lt-ltb}
use Rattle.std.proofs.lemmas.List.{length-map}
use Rattle.std.proofs.lemmas.Bool.Decides.{nat_tests}
use Rattle.ncq_base.specs.declared.atom.Op.{Op}
use Rattle.ncq_base.specs.declared.atom.Op.TheVariants.{Eq, Ne, Lt, Le, Gt, Ge}
use Rattle.ncq_row.specs.declared.pair.Pair.{Pair}
use Rattle.ncq_row.specs.Widths.{width}
use Rattle.std.proofs.lemmas.Grind.{flat_map-append}
use Rattle.std.specs.List.{AllByRecursion}
use Rattle.std.proofs.lemmas.List.Folds.{list_all-append}
use Rattle.ncq_bind.proofs.ListLaws.{all-flat_map}
use Rattle.ncq_plan.specs.declared.query.EqualTo.{EqualTo}
use Rattle.ncq_plan.specs.declared.query.Within.{Within}
use Rattle.ncq_plan.specs.declared.residual.Check.{Check}
use Rattle.ncq_plan.specs.WellFormed.{arms_width, equals_in, ranges_in, ArmFits, ArmsFit}
use Rattle.ncq_plan.specs.Residuals.{check_is_within}
use Rattle.ncq_plan.specs.Templates.{attribute_is_within, text_is_within, template_is_within}
use Rattle.ncq_plan.specs.WellFormed as formed
use Rattle.ncq_plan.proofs.TemplateLaws.{slot_within, text_within, element_within}
use Rattle.ncq_base.specs.Atoms.{atom_of}
use Rattle.ncq_xmlql.specs.declared.model.PatternAttribute.{PatternAttribute}
use Rattle.ncq_xmlql.specs.declared.model.Content.{Content}
use Rattle.ncq_xmlql.specs.declared.model.Pattern.{Pattern}
use Rattle.ncq_xmlql.specs.declared.model.Suffix.{Suffix}
use Rattle.ncq_xmlql.specs.declared.model.Suffix.TheVariants.{Plain, ElementAs, ContentAs}
use Rattle.ncq_xmlql.specs.declared.model.Query.{Query}
use Rattle.ncq_xmlql.specs.declared.model.Template.{Template}
use Rattle.ncq_xmlql.specs.declared.model.TemplateAttribute.{TemplateAttribute}
use Rattle.ncq_xmlql.specs.Counts as counted
use Rattle.ncq_xmlql.specs.Counts.{suffix_slots, pattern_slots, content_slots, item_slots, slots, item_conditions, conditions}
use Rattle.ncq_path.specs.Formed.{is_formed}
use Rattle.ncq_xmlql.specs.PatternPaths.{all_paths}
use Rattle.ncq_xmlql.specs.Statements.{AreWithin}
use Rattle.ncq_xmlql.specs.WellFormed.{begins_with_match, item_is_whole}
use Rattle.ncq_xmlql.specs.ItemReading.{has_arm}
use Rattle.ncq_xmlql.proofs.Slots.{slots_of_pattern, slots_of_value, slots_of_parts}
use Rattle.ncq_xmlql.specs.declared.model.Operand.{Operand}
use Rattle.ncq_xmlql.specs.declared.model.Operand.TheVariants.{Variable, Literal}
use Rattle.ncq_xmlql.specs.declared.model.QueryItem.{QueryItem}
use Rattle.ncq_xmlql.specs.declared.model.QueryItem.TheVariants.{Match, Condition, Satisfies}
use Rattle.ncq_bind.specs.declared.open_arm.OpenArm.{OpenArm}
use Rattle.ncq_bind.specs.declared.constraint.Constraint.{Constraint}
use Rattle.ncq_bind.specs.declared.constraint.Constraint.TheVariants.{Equal, Bound, Alike, Other}
use Rattle.ncq_bind.specs.Places.{places, shape_of, suffix_places, content_places}
use Rattle.ncq_bind.specs.Answers.{QueryArm, item_arms, arms_of, places_of}
use Rattle.ncq_bind.specs.Constraints.{first_slot, place_constraints, constraints_from, slots_constraints, item_constraints, constraints_of}
use Rattle.ncq_bind.specs.Sorted.{sorted_onto, equal_order, pair_order}
use Rattle.ncq_bind.specs.Ranges.{ranges_onto, one_sided}
use Rattle.ncq_bind.specs.NormalArms.{in_arm, equal_in, range_in, pair_in, open_arms, normal_arm}
use Rattle.ncq_bind.specs.NormalQueries.{in_one_arm, inner_check, other_check, residual_of, slot_text_of, slot_attribute_of, slot_template, normal_query}
use Rattle.std.proofs.Math.Bool.{and-true}
use Rattle.ncq_bind.proofs.Bools.{and_itself, all_of_if}
use Rattle.ncq_base.proofs.Tests.{both_true}
use Rattle.ncq_bind.proofs.AtomLaws.{nat_tied}
use Rattle.ncq_bind.proofs.SortedLaws.{all-sorted_onto, all-ranges_onto, sorted_count, ranges_count, then_tied}
use Rattle.ncq_bind.specs.Bound.{operand_is_bound, item_is_bound, template_is_bound}
use Rattle.ncq_bind.proofs.ConstraintLaws.{InRange, constraints_in}
use Rattle.ncq_bind.proofs.Slots.{bound_slot}
use Rattle.ncq_bind.proofs.Patterns.{places_of_pattern, places_of_value, places_of_parts, patterns_induction}
use Rattle.ncq_bind.proofs.TemplateLaws.{templates_induction, slotted_variable, slotted_literal, slotted_element, bound_variable, bound_element}
use Rattle.ncq_bind.proofs.Widths.{width_of, sum-cons}
use Rattle.ncq_bind.proofs.SharingLaws.{first_or_later}
use Rattle.ncq_bind.proofs.ShapeFormed.{arms_are_formed}

-- ---- slots of arms

pub arms_width_is : (constraints : List Constraint) (offset : ℕ) (arms : List QueryArm) → arms_width (map (normal_arm constraints) (open_arms offset arms)) ≡ length (places_of arms)
arms_width_is constraints offset [] = refl
arms_width_is constraints offset (arm ∷ arms) =
    let w = length (places arm.pattern) in
    (λ i. width_of arm.pattern i + arms_width_is constraints (offset + w) arms i)
    ∙ sym (length-append (places arm.pattern) (places_of arms))

inside : (offset width slot : ℕ) → in_arm offset width slot ≡ true → nat_lt (slot - offset) width ≡ true
inside offset width slot e = let h : slot - offset < width = grind (arith, nat_tests) in lt-ltb (slot - offset) width h

implied : (b : Bool) → (not b || true) ≡ true
implied true = refl
implied false = refl

always : {A : Type 0} (p : A → Bool) → ((x : A) → p x ≡ true) → (xs : List A) → list_all p xs ≡ true
always p h [] = refl
always p h (x ∷ xs) = λ i. h x i && always p h xs i

equal_bound : (offset width : ℕ) (c : Constraint) → list_all (λ (e : EqualTo). nat_lt e.slot width) (equal_in offset width c) ≡ true
equal_bound offset width (Equal slot constant) =
    all_of_if (λ (e : EqualTo). nat_lt e.slot width) (in_arm offset width slot) (record { slot = slot - offset; constant = constant }) true (inside offset width slot) ∙ implied (in_arm offset width slot)
equal_bound offset width (Bound slot op number) = refl
equal_bound offset width (Alike left right) = refl
equal_bound offset width (Other test) = refl

range_bound : (offset width : ℕ) (c : Constraint) → list_all (λ (r : Within). nat_lt r.slot width) (range_in offset width c) ≡ true
range_bound offset width (Bound slot op number) =
    all_of_if (λ (r : Within). nat_lt r.slot width) (in_arm offset width slot) (record { slot = slot - offset; interval = one_sided op number }) true (inside offset width slot) ∙ implied (in_arm offset width slot)
range_bound offset width (Equal slot constant) = refl
range_bound offset width (Alike left right) = refl
range_bound offset width (Other test) = refl

left_bound : (offset width : ℕ) (c : Constraint) → list_all (λ (p : Pair). nat_lt p.left offset) (pair_in offset width c) ≡ true
left_bound offset width (Alike left right) =
    all_of_if (λ (p : Pair). nat_lt p.left offset) (nat_lt left offset && in_arm offset width right) (record { left = left; right = right - offset }) true
    (λ e. (both_true (nat_lt left offset) (in_arm offset width right) e).0)
    ∙ implied (nat_lt left offset && in_arm offset width right)
left_bound offset width (Equal slot constant) = refl
left_bound offset width (Bound slot op number) = refl
left_bound offset width (Other test) = refl

right_bound : (offset width : ℕ) (c : Constraint) → list_all (λ (p : Pair). nat_lt p.right width) (pair_in offset width c) ≡ true
right_bound offset width (Alike left right) =
    all_of_if (λ (p : Pair). nat_lt p.right width) (nat_lt left offset && in_arm offset width right) (record { left = left; right = right - offset }) true
    (λ e. inside offset width right (both_true (nat_lt left offset) (in_arm offset width right) e).1)
    ∙ implied (nat_lt left offset && in_arm offset width right)
right_bound offset width (Equal slot constant) = refl
right_bound offset width (Bound slot op number) = refl
right_bound offset width (Other test) = refl

-- a test that is true of each is a fact of each
all_below : {A : Type 0} (f : A → ℕ) (n : ℕ) (xs : List A) → list_all (λ x. nat_lt (f x) n) xs ≡ true → AllByRecursion (λ x. f x < n) xs
all_below f n [] e = tt
all_below f n (x ∷ xs) e =
    let both = both_true (nat_lt (f x) n) (list_all (λ x. nat_lt (f x) n) xs) e in
    (below both.0, all_below f n xs both.1)
  where
    below : nat_lt (f x) n ≡ true → f x < n
    below h = grind (arith, nat_tests)

module _ (constraints : List Constraint) (offset width : ℕ) where
  equals_below : AllByRecursion (λ (e : EqualTo). e.slot < width) (sorted_onto equal_order [] (flat_map (equal_in offset width) constraints))
  equals_below = all_below (λ (e : EqualTo). e.slot) width (sorted_onto equal_order [] (flat_map (equal_in offset width) constraints))
      (all-sorted_onto equal_order (λ e. nat_lt e.slot width) (λ x y e. ap (λ s. nat_lt s width) (nat_tied x.slot y.slot (then_tied _ _ e).0)) [] (flat_map (equal_in offset width) constraints)
      ∙ all-flat_map (λ (e : EqualTo). nat_lt e.slot width) (equal_in offset width) constraints
      ∙ always (λ c. list_all (λ (e : EqualTo). nat_lt e.slot width) (equal_in offset width c)) (equal_bound offset width) constraints)

  ranges_below : AllByRecursion (λ (r : Within). r.slot < width) (ranges_onto [] (flat_map (range_in offset width) constraints))
  ranges_below = all_below (λ (r : Within). r.slot) width (ranges_onto [] (flat_map (range_in offset width) constraints))
      (all-ranges_onto (λ r. nat_lt r.slot width) (λ w y e. sym (and_itself (nat_lt y.slot width)) ∙ ap (λ s. nat_lt s width && nat_lt y.slot width) (sym (nat_tied w.slot y.slot e))) [] (flat_map (range_in offset width) constraints)
      ∙ all-flat_map (λ (r : Within). nat_lt r.slot width) (range_in offset width) constraints
      ∙ always (λ c. list_all (λ (r : Within). nat_lt r.slot width) (range_in offset width c)) (range_bound offset width) constraints)

  lefts_below : AllByRecursion (λ (p : Pair). p.left < offset) (sorted_onto pair_order [] (flat_map (pair_in offset width) constraints))
  lefts_below = all_below (λ (p : Pair). p.left) offset (sorted_onto pair_order [] (flat_map (pair_in offset width) constraints))
      (all-sorted_onto pair_order (λ p. nat_lt p.left offset) (λ x y e. ap (λ s. nat_lt s offset) (nat_tied x.left y.left (then_tied _ _ e).0)) [] (flat_map (pair_in offset width) constraints)
      ∙ all-flat_map (λ (p : Pair). nat_lt p.left offset) (pair_in offset width) constraints
      ∙ always (λ c. list_all (λ (p : Pair). nat_lt p.left offset) (pair_in offset width c)) (left_bound offset width) constraints)

  rights_below : AllByRecursion (λ (p : Pair). p.right < width) (sorted_onto pair_order [] (flat_map (pair_in offset width) constraints))
  rights_below = all_below (λ (p : Pair). p.right) width (sorted_onto pair_order [] (flat_map (pair_in offset width) constraints))
      (all-sorted_onto pair_order (λ p. nat_lt p.right width) (λ x y e. ap (λ s. nat_lt s width) (nat_tied x.right y.right (then_tied _ _ e).1)) [] (flat_map (pair_in offset width) constraints)
      ∙ all-flat_map (λ (p : Pair). nat_lt p.right width) (pair_in offset width) constraints
      ∙ always (λ c. list_all (λ (p : Pair). nat_lt p.right width) (pair_in offset width c)) (right_bound offset width) constraints)

pub arms_fit : (constraints : List Constraint) (offset : ℕ) (arms : List QueryArm) → ArmsFit offset (map (normal_arm constraints) (open_arms offset arms))
arms_fit constraints offset [] = tt
arms_fit constraints offset (arm ∷ arms) = (first, subst (λ n. ArmsFit (offset + n) (map (normal_arm constraints) (open_arms (offset + (length (places arm.pattern))) arms))) (sym (width_of arm.pattern)) (arms_fit constraints (offset + (length (places arm.pattern))) arms))
  where
    first : ArmFits offset (normal_arm constraints (record { source = arm.source; shape = shape_of arm.pattern; offset = offset; width = (length (places arm.pattern)) }))
    first = record {
      equals = subst (λ n. AllByRecursion (λ (e : EqualTo). e.slot < n) (sorted_onto equal_order [] (flat_map (equal_in offset (length (places arm.pattern))) constraints))) (sym (width_of arm.pattern)) (equals_below constraints offset (length (places arm.pattern)));
      ranges = subst (λ n. AllByRecursion (λ (r : Within). r.slot < n) (ranges_onto [] (flat_map (range_in offset (length (places arm.pattern))) constraints))) (sym (width_of arm.pattern)) (ranges_below constraints offset (length (places arm.pattern)));
      lefts = lefts_below constraints offset (length (places arm.pattern));
      rights = subst (λ n. AllByRecursion (λ (p : Pair). p.right < n) (sorted_onto pair_order [] (flat_map (pair_in offset (length (places arm.pattern))) constraints))) (sym (width_of arm.pattern)) (rights_below constraints offset (length (places arm.pattern)));
    }

-- ---- the residual

inner_bound : (total : ℕ) (arms : List OpenArm) (c : Constraint) → InRange total c → list_all (check_is_within total) (inner_check arms c) ≡ true
inner_bound total arms (Alike left right) h =
    all_of_if (check_is_within total) (in_one_arm arms left right) _ true
    (λ e. let l : left < total = omega arith in λ i. lt-ltb left total l i && lt-ltb right total h.1 i) ∙ implied (in_one_arm arms left right)
inner_bound total arms (Equal slot constant) h = refl
inner_bound total arms (Bound slot op number) h = refl
inner_bound total arms (Other test) h = refl

other_bound : (total : ℕ) (c : Constraint) → InRange total c → list_all (check_is_within total) (other_check c) ≡ true
other_bound total (Other check) h = and-true (check_is_within total check) ∙ h
other_bound total (Equal slot constant) h = refl
other_bound total (Bound slot op number) h = refl
other_bound total (Alike left right) h = refl

all_of_each : (total : ℕ) (f : Constraint → List Check) → ((c : Constraint) → InRange total c → list_all (check_is_within total) (f c) ≡ true)
    → (constraints : List Constraint) → AllByRecursion (InRange total) constraints → list_all (check_is_within total) (flat_map f constraints) ≡ true
all_of_each total f h [] e = refl
all_of_each total f h (c ∷ constraints) e =
    list_all-append (check_is_within total) (f c) (flat_map f constraints) ∙ (λ i. h c e.0 i && all_of_each total f h constraints e.1 i)

pub residual_bound : (total : ℕ) (arms : List OpenArm) (constraints : List Constraint) → AllByRecursion (InRange total) constraints → list_all (check_is_within total) (residual_of arms constraints) ≡ true
residual_bound total arms constraints e =
    list_all-append (check_is_within total) (flat_map (inner_check arms) constraints) (flat_map other_check constraints)
    ∙ (λ i. all_of_each total (inner_check arms) (inner_bound total arms) constraints e i && all_of_each total other_check (other_bound total) constraints e i)

-- ---- counts

-- how many entries the arms have of some kind, before they are sorted
abbrev entries : {A : Type 0} → (ℕ → ℕ → Constraint → List A) → List OpenArm → List Constraint → ℕ
entries f arms constraints = sum_by (λ a. length (flat_map (f a.offset a.width) constraints)) arms

-- how many of them come of one constraint
abbrev entries_of : {A : Type 0} → (ℕ → ℕ → Constraint → List A) → List OpenArm → Constraint → ℕ
entries_of f arms c = sum_by (λ a. length (f a.offset a.width c)) arms

entries-cons : {A : Type 0} (f : ℕ → ℕ → Constraint → List A) (arms : List OpenArm) (c : Constraint) (constraints : List Constraint)
    → entries f arms (c ∷ constraints) ≡ entries_of f arms c + entries f arms constraints
entries-cons f [] c constraints = refl
entries-cons f (a ∷ arms) c constraints =
    let x : entries f (a ∷ arms) (c ∷ constraints) ≡ length (flat_map (f a.offset a.width) (c ∷ constraints)) + entries f arms (c ∷ constraints) = sum-cons (λ a. length (flat_map (f a.offset a.width) (c ∷ constraints))) a arms in
    let y : entries_of f (a ∷ arms) c ≡ length (f a.offset a.width c) + entries_of f arms c = sum-cons (λ a. length (f a.offset a.width c)) a arms in
    let z : entries f (a ∷ arms) constraints ≡ length (flat_map (f a.offset a.width) constraints) + entries f arms constraints = sum-cons (λ a. length (flat_map (f a.offset a.width) constraints)) a arms in
    let one : length (flat_map (f a.offset a.width) (c ∷ constraints)) ≡ length (f a.offset a.width c) + length (flat_map (f a.offset a.width) constraints) = length-append (f a.offset a.width c) (flat_map (f a.offset a.width) constraints) in
    let more : entries f arms (c ∷ constraints) ≡ entries_of f arms c + entries f arms constraints = entries-cons f arms c constraints in
    omega arith

entries_none : {A : Type 0} (f : ℕ → ℕ → Constraint → List A) (arms : List OpenArm) → entries f arms [] ≡ 0
entries_none f [] = refl
entries_none f (a ∷ arms) =
    let e : entries f (a ∷ arms) [] ≡ 0 + entries f arms [] = sum-cons (λ a. length (flat_map (f a.offset a.width) [])) a arms in
    let more : entries f arms [] ≡ 0 = entries_none f arms in
    omega arith

entries_at_most : {A : Type 0} (f : ℕ → ℕ → Constraint → List A) (arms : List OpenArm) → ((c : Constraint) → entries_of f arms c ≤ 1) → (constraints : List Constraint)
    → entries f arms constraints ≤ length constraints
entries_at_most f arms h [] = let e : entries f arms [] ≡ 0 = entries_none f arms in omega arith
entries_at_most f arms h (c ∷ constraints) =
    let e : entries f arms (c ∷ constraints) ≡ entries_of f arms c + entries f arms constraints = entries-cons f arms c constraints in
    let one : entries_of f arms c ≤ 1 = h c in
    let more : entries f arms constraints ≤ length constraints = entries_at_most f arms h constraints in
    omega arith

entries-append : {A : Type 0} (f : ℕ → ℕ → Constraint → List A) (arms : List OpenArm) (xs ys : List Constraint) → entries f arms (xs ++ ys) ≡ entries f arms xs + entries f arms ys
entries-append f arms [] ys = let e : entries f arms [] ≡ 0 = entries_none f arms in omega arith
entries-append f arms (x ∷ xs) ys =
    let a : entries f arms (x ∷ (xs ++ ys)) ≡ entries_of f arms x + entries f arms (xs ++ ys) = entries-cons f arms x (xs ++ ys) in
    let b : entries f arms (x ∷ xs) ≡ entries_of f arms x + entries f arms xs = entries-cons f arms x xs in
    let c : entries f arms (xs ++ ys) ≡ entries f arms xs + entries f arms ys = entries-append f arms xs ys in
    omega arith

-- entries of one slot stand in one arm at most
module _ {A : Type 0} (f : ℕ → ℕ → Constraint → List A) (c : Constraint) (slot : ℕ)
    (most : (o w : ℕ) → length (f o w c) ≤ 1) (none : (o w : ℕ) → slot < o → length (f o w c) ≡ 0) (past : (o w : ℕ) → o + w ≤ slot → length (f o w c) ≡ 0) where
  later_none : (offset : ℕ) (arms : List QueryArm) → slot < offset → entries_of f (open_arms offset arms) c ≡ 0
  later_none offset [] h = refl
  later_none offset (arm ∷ arms) h =
      let w = length (places arm.pattern) in
      let e : entries_of f (open_arms offset (arm ∷ arms)) c ≡ length (f offset (length (places arm.pattern)) c) + entries_of f (open_arms (offset + length (places arm.pattern)) arms) c
      = sum-cons (λ a. length (f a.offset a.width c)) (record { source = arm.source; shape = shape_of arm.pattern; offset = offset; width = length (places arm.pattern) }) (open_arms (offset + length (places arm.pattern)) arms) in
      let here : length (f offset (length (places arm.pattern)) c) ≡ 0 = none offset (length (places arm.pattern)) h in
      let there : entries_of f (open_arms (offset + length (places arm.pattern)) arms) c ≡ 0 = later_none (offset + length (places arm.pattern)) arms (omega arith) in
      omega arith

  pub one_at_most : (offset : ℕ) (arms : List QueryArm) → entries_of f (open_arms offset arms) c ≤ 1
  one_at_most offset [] = omega arith
  one_at_most offset (arm ∷ arms) =
      let e : entries_of f (open_arms offset (arm ∷ arms)) c ≡ length (f offset (length (places arm.pattern)) c) + entries_of f (open_arms (offset + length (places arm.pattern)) arms) c
      = sum-cons (λ a. length (f a.offset a.width c)) (record { source = arm.source; shape = shape_of arm.pattern; offset = offset; width = length (places arm.pattern) }) (open_arms (offset + length (places arm.pattern)) arms) in
      first_or_later offset (length (places arm.pattern)) slot (entries_of f (open_arms offset (arm ∷ arms)) c ≤ 1)
      (λ k. let here : length (f offset (length (places arm.pattern)) c) ≤ 1 = most offset (length (places arm.pattern)) in
      let there : entries_of f (open_arms (offset + length (places arm.pattern)) arms) c ≡ 0 = later_none (offset + length (places arm.pattern)) arms k in omega arith)
      (λ k. let here : length (f offset (length (places arm.pattern)) c) ≡ 0 = past offset (length (places arm.pattern)) k in
      let there : entries_of f (open_arms (offset + length (places arm.pattern)) arms) c ≤ 1 = one_at_most (offset + length (places arm.pattern)) arms in omega arith)

if_most : {A : Type 0} (b : Bool) (x : A) → length (if b then x ∷ [] else []) ≤ 1
if_most true x = omega arith
if_most false x = omega arith

if_none : {A : Type 0} (b : Bool) (x : A) → b ≡ false → length (if b then x ∷ [] else []) ≡ 0
if_none true x e = absurd cc
if_none false x e = refl

before_arm : (offset width slot : ℕ) → slot < offset → in_arm offset width slot ≡ false
before_arm offset width slot h = grind (arith, nat_tests)

past_arm : (offset width slot : ℕ) → offset + width ≤ slot → in_arm offset width slot ≡ false
past_arm offset width slot h = grind (arith, nat_tests)

one_equal : (arms : List QueryArm) (c : Constraint) → entries_of equal_in (open_arms 0 arms) c ≤ 1
one_equal arms (Equal slot constant) = one_at_most equal_in (Equal slot constant) slot
    (λ o w. if_most (in_arm o w slot) (record { slot = slot - o; constant = constant }))
    (λ o w h. if_none (in_arm o w slot) (record { slot = slot - o; constant = constant }) (before_arm o w slot h))
    (λ o w h. if_none (in_arm o w slot) (record { slot = slot - o; constant = constant }) (past_arm o w slot h)) 0 arms
one_equal arms (Bound slot op number) = one_at_most equal_in (Bound slot op number) 0 (λ o w. omega arith) (λ o w h. refl) (λ o w h. refl) 0 arms
one_equal arms (Alike left right) = one_at_most equal_in (Alike left right) 0 (λ o w. omega arith) (λ o w h. refl) (λ o w h. refl) 0 arms
one_equal arms (Other test) = one_at_most equal_in (Other test) 0 (λ o w. omega arith) (λ o w h. refl) (λ o w h. refl) 0 arms

one_range : (arms : List QueryArm) (c : Constraint) → entries_of range_in (open_arms 0 arms) c ≤ 1
one_range arms (Bound slot op number) = one_at_most range_in (Bound slot op number) slot
    (λ o w. if_most (in_arm o w slot) (record { slot = slot - o; interval = one_sided op number }))
    (λ o w h. if_none (in_arm o w slot) (record { slot = slot - o; interval = one_sided op number }) (before_arm o w slot h))
    (λ o w h. if_none (in_arm o w slot) (record { slot = slot - o; interval = one_sided op number }) (past_arm o w slot h)) 0 arms
one_range arms (Equal slot constant) = one_at_most range_in (Equal slot constant) 0 (λ o w. omega arith) (λ o w h. refl) (λ o w h. refl) 0 arms
one_range arms (Alike left right) = one_at_most range_in (Alike left right) 0 (λ o w. omega arith) (λ o w h. refl) (λ o w h. refl) 0 arms
one_range arms (Other test) = one_at_most range_in (Other test) 0 (λ o w. omega arith) (λ o w h. refl) (λ o w h. refl) 0 arms

equals_at_most : (constraints : List Constraint) (arms : List OpenArm) → equals_in (map (normal_arm constraints) arms) ≤ entries equal_in arms constraints
equals_at_most constraints [] = omega arith
equals_at_most constraints (a ∷ arms) =
    let x : equals_in (map (normal_arm constraints) (a ∷ arms)) ≡ length (sorted_onto equal_order [] (flat_map (equal_in a.offset a.width) constraints)) + equals_in (map (normal_arm constraints) arms)
    = refl in
    let y : entries equal_in (a ∷ arms) constraints ≡ length (flat_map (equal_in a.offset a.width) constraints) + entries equal_in arms constraints
    = sum-cons (λ a. length (flat_map (equal_in a.offset a.width) constraints)) a arms in
    let one : length (sorted_onto equal_order [] (flat_map (equal_in a.offset a.width) constraints)) ≤ 0 + length (flat_map (equal_in a.offset a.width) constraints)
    = sorted_count equal_order [] (flat_map (equal_in a.offset a.width) constraints) in
    let more : equals_in (map (normal_arm constraints) arms) ≤ entries equal_in arms constraints = equals_at_most constraints arms in
    omega arith

ranges_at_most : (constraints : List Constraint) (arms : List OpenArm) → ranges_in (map (normal_arm constraints) arms) ≤ entries range_in arms constraints
ranges_at_most constraints [] = omega arith
ranges_at_most constraints (a ∷ arms) =
    let x : ranges_in (map (normal_arm constraints) (a ∷ arms)) ≡ length (ranges_onto [] (flat_map (range_in a.offset a.width) constraints)) + ranges_in (map (normal_arm constraints) arms)
    = refl in
    let y : entries range_in (a ∷ arms) constraints ≡ length (flat_map (range_in a.offset a.width) constraints) + entries range_in arms constraints
    = sum-cons (λ a. length (flat_map (range_in a.offset a.width) constraints)) a arms in
    let one : length (ranges_onto [] (flat_map (range_in a.offset a.width) constraints)) ≤ 0 + length (flat_map (range_in a.offset a.width) constraints)
    = ranges_count [] (flat_map (range_in a.offset a.width) constraints) in
    let more : ranges_in (map (normal_arm constraints) arms) ≤ entries range_in arms constraints = ranges_at_most constraints arms in
    omega arith

-- ---- constraints, counted

place_count : (first : List ℕ → ℕ) (slot : ℕ) (o : Operand) → length (place_constraints first slot o) ≤ 1
place_count first slot (Literal text) = omega arith
place_count first slot (Variable x) = by_test (first x == slot)
  where
    by_test : (b : Bool) → length (if b then [] else Alike (first x) slot ∷ []) ≤ 1
    by_test true = omega arith
    by_test false = omega arith

places_count : (first : List ℕ → ℕ) (slot : ℕ) (ps : List Operand) → length (constraints_from first slot ps) ≤ length ps
places_count first slot [] = omega arith
places_count first slot (o ∷ ps) =
    let a : length (place_constraints first slot o ++ constraints_from first (suc slot) ps) ≡ length (place_constraints first slot o) + length (constraints_from first (suc slot) ps)
    = length-append (place_constraints first slot o) (constraints_from first (suc slot) ps) in
    let one : length (place_constraints first slot o) ≤ 1 = place_count first slot o in
    let more : length (constraints_from first (suc slot) ps) ≤ length ps = places_count first (suc slot) ps in
    omega arith

-- what is no bound is in no arm's ranges
no_range : (c : Constraint) → ((o w : ℕ) → range_in o w c ≡ []) → (arms : List OpenArm) → entries range_in arms (c ∷ []) ≡ 0
no_range c h [] = refl
no_range c h (a ∷ arms) =
    let e : entries range_in (a ∷ arms) (c ∷ []) ≡ length (range_in a.offset a.width c ++ []) + entries range_in arms (c ∷ []) = sum-cons (λ a. length (flat_map (range_in a.offset a.width) (c ∷ []))) a arms in
    let here : length (range_in a.offset a.width c ++ []) ≡ 0 = ap (λ (v : List Within). length (v ++ [])) (h a.offset a.width) in
    let more : entries range_in arms (c ∷ []) ≡ 0 = no_range c h arms in
    omega arith

place_ranges : (first : List ℕ → ℕ) (slot : ℕ) (o : Operand) (arms : List OpenArm) → entries range_in arms (place_constraints first slot o) ≡ 0
place_ranges first slot (Literal text) arms = no_range (Equal slot (atom_of text)) (λ o w. refl) arms
place_ranges first slot (Variable x) arms = by_test (first x == slot)
  where
    by_test : (b : Bool) → entries range_in arms (if b then [] else Alike (first x) slot ∷ []) ≡ 0
    by_test true = entries_none range_in arms
    by_test false = no_range (Alike (first x) slot) (λ o w. refl) arms

places_ranges : (first : List ℕ → ℕ) (slot : ℕ) (ps : List Operand) (arms : List OpenArm) → entries range_in arms (constraints_from first slot ps) ≡ 0
places_ranges first slot [] arms = entries_none range_in arms
places_ranges first slot (o ∷ ps) arms =
    entries-append range_in arms (place_constraints first slot o) (constraints_from first (suc slot) ps) ∙ (λ i. place_ranges first slot o arms i + places_ranges first (suc slot) ps arms i)

slots_count : (op : Op) (a b : ℕ) → length (slots_constraints op a b) ≤ 1
slots_count Eq a b = by_test (a == b)
  where
    by_test : (t : Bool) → length (if t then [] else Alike (min a b) (max a b) ∷ []) ≤ 1
    by_test true = omega arith
    by_test false = omega arith
slots_count Ne a b = omega arith
slots_count Lt a b = omega arith
slots_count Le a b = omega arith
slots_count Gt a b = omega arith
slots_count Ge a b = omega arith

item_count : (first : List ℕ → ℕ) (item : QueryItem) → length (item_constraints first item) ≤ item_conditions item
item_count first (Match root arms source) = omega arith
item_count first (Condition (Variable x) op (Variable y)) = slots_count op (first x) (first y)
item_count first (Condition (Variable x) op (Literal text)) = omega arith
item_count first (Condition (Literal text) op (Variable x)) = omega arith
item_count first (Condition (Literal s) op (Literal t)) = omega arith
item_count first (Satisfies variable predicate argument) = omega arith

items_count : (first : List ℕ → ℕ) (items : List QueryItem) → length (flat_map (item_constraints first) items) ≤ conditions items
items_count first [] = omega arith
items_count first (item ∷ items) =
    let a : length (item_constraints first item ++ flat_map (item_constraints first) items) ≡ length (item_constraints first item) + length (flat_map (item_constraints first) items)
    = length-append (item_constraints first item) (flat_map (item_constraints first) items) in
    let b : conditions (item ∷ items) ≡ item_conditions item + conditions items = sum-cons item_conditions item items in
    let one : length (item_constraints first item) ≤ item_conditions item = item_count first item in
    let more : length (flat_map (item_constraints first) items) ≤ conditions items = items_count first items in
    omega arith

-- ---- arms and slots, counted

item_arms_count : (item : QueryItem) → length (item_arms item) ≡ counted.item_arms item
item_arms_count (Match root patterns source) = length-map patterns (λ (p : Pattern). record { pattern = p; source = source })
item_arms_count (Condition left op right) = refl
item_arms_count (Satisfies variable predicate argument) = refl

arms_count : (items : List QueryItem) → length (arms_of items) ≡ counted.arms items
arms_count [] = refl
arms_count (item ∷ items) =
    length-append (item_arms item) (arms_of items) ∙ (λ i. item_arms_count item i + arms_count items i) ∙ sym (sum-cons counted.item_arms item items)

open_count : (offset : ℕ) (arms : List QueryArm) → length (open_arms offset arms) ≡ length arms
open_count offset [] = refl
open_count offset (arm ∷ arms) = ap suc (open_count (offset + length (places arm.pattern)) arms)

abbrev PatternCount : Pattern → Type 0
PatternCount p = pattern_slots p ≡ length (places p)

abbrev ContentCount : Content → Type 0
ContentCount c = content_slots c ≡ length (content_places c)

suffix_count : (s : Suffix) → suffix_slots s ≡ length (suffix_places s)
suffix_count Plain = refl
suffix_count (ElementAs x) = refl
suffix_count (ContentAs x) = refl

parts_sum : (below : List ((p : Pattern) × PatternCount p)) → sum_by pattern_slots (map (λ b. b.0) below) ≡ length (flat_map places (map (λ b. b.0) below))
parts_sum [] = refl
parts_sum (b ∷ below) =
    sum-cons pattern_slots b.0 (map (λ b. b.0) below) ∙ (λ i. b.1 i + parts_sum below i) ∙ sym (length-append (places b.0) (flat_map places (map (λ b. b.0) below)))

whole_count : (p : Pattern) → ContentCount p.content → PatternCount p
whole_count p h =
    slots_of_pattern p ∙ (λ i. length p.attributes + h i + suffix_count p.suffix i)
    ∙ sum_is ∙ sym (ap length (places_of_pattern p))
  where
    sum_is : length p.attributes + length (content_places p.content) + length (suffix_places p.suffix) ≡ length (map (λ a. a.value) p.attributes ++ (content_places p.content ++ suffix_places p.suffix))
    sum_is =
        let a : length (map (λ a. a.value) p.attributes ++ (content_places p.content ++ suffix_places p.suffix)) ≡ length (map (λ a. a.value) p.attributes) + length (content_places p.content ++ suffix_places p.suffix)
        = length-append (map (λ a. a.value) p.attributes) (content_places p.content ++ suffix_places p.suffix) in
        let b : length (content_places p.content ++ suffix_places p.suffix) ≡ length (content_places p.content) + length (suffix_places p.suffix) = length-append (content_places p.content) (suffix_places p.suffix) in
        let c : length (map (λ a. a.value) p.attributes) ≡ length p.attributes = length-map p.attributes (λ (a : PatternAttribute). a.value) in
        omega arith

pattern_count : (p : Pattern) → PatternCount p
pattern_count = patterns_induction ContentCount PatternCount
    (λ o. slots_of_value o ∙ sym (ap length (places_of_value o)))
    (λ below. slots_of_parts (map (λ b. b.0) below) ∙ parts_sum below ∙ sym (ap length (places_of_parts (map (λ b. b.0) below))))
    (λ tag attributes content suffix. whole_count (record { tag = tag; attributes = attributes; content = content.0; suffix = suffix }) content.1)

patterns_count : (source : List ℕ) (patterns : List Pattern) → length (places_of (map (λ p. record { pattern = p; source = source }) patterns)) ≡ sum_by pattern_slots patterns
patterns_count source [] = refl
patterns_count source (p ∷ patterns) =
    length-append (places p) (places_of (map (λ p. record { pattern = p; source = source }) patterns))
    ∙ (λ i. sym (pattern_count p) i + patterns_count source patterns i) ∙ sym (sum-cons pattern_slots p patterns)

item_slots_count : (item : QueryItem) → length (places_of (item_arms item)) ≡ item_slots item
item_slots_count (Match root patterns source) = patterns_count source patterns
item_slots_count (Condition left op right) = refl
item_slots_count (Satisfies variable predicate argument) = refl

slots_count_is : (items : List QueryItem) → length (places_of (arms_of items)) ≡ slots items
slots_count_is [] = refl
slots_count_is (item ∷ items) =
    ap length (flat_map-append (λ (arm : QueryArm). places arm.pattern) (item_arms item) (arms_of items))
    ∙ length-append (places_of (item_arms item)) (places_of (arms_of items))
    ∙ (λ i. item_slots_count item i + slots_count_is items i) ∙ sym (sum-cons item_slots item items)

arm_of_match : (patterns : List Pattern) (source : List ℕ) (more : List QueryArm) → has_arm patterns ≡ true → 0 < length (map (λ p. record { pattern = p; source = source }) patterns ++ more)
arm_of_match [] source more e = absurd cc
arm_of_match (p ∷ patterns) source more e = omega arith

some_arm : (items : List QueryItem) → begins_with_match items ≡ true → list_all item_is_whole items ≡ true → 0 < length (arms_of items)
some_arm [] b e = absurd cc
some_arm ((Match root patterns source) ∷ items) b e = arm_of_match patterns source (arms_of items) (both_true (has_arm patterns) (list_all item_is_whole items) e).0
some_arm ((Condition left op right) ∷ items) b e = absurd cc
some_arm ((Satisfies variable predicate argument) ∷ items) b e = absurd cc

-- ---- the template

module _ (ps : List Operand) where
  abbrev TemplateBound : Template → Type 0
  TemplateBound t = template_is_bound ps t ≡ true → template_is_within (length ps) (slot_template (first_slot ps) t) ≡ true

  attributes_bound : (attributes : List TemplateAttribute) → list_all (λ a. operand_is_bound ps a.value) attributes ≡ true
      → list_all (attribute_is_within (length ps)) (map (slot_attribute_of (first_slot ps)) attributes) ≡ true
  attributes_bound [] e = refl
  attributes_bound (a ∷ attributes) e =
      let both = both_true (operand_is_bound ps a.value) (list_all (λ a. operand_is_bound ps a.value) attributes) e in
      λ i. text_bound a.value both.0 i && attributes_bound attributes both.1 i
    where
      text_bound : (o : Operand) → operand_is_bound ps o ≡ true → text_is_within (length ps) (slot_text_of (first_slot ps) o) ≡ true
      text_bound (Variable x) h = lt-ltb (first_slot ps x) (length ps) (bound_slot ps x h)
      text_bound (Literal text) h = refl

  below_bound : (below : List ((t : Template) × TemplateBound t)) → list_all (template_is_bound ps) (map (λ b. b.0) below) ≡ true
      → list_all (template_is_within (length ps)) (map (slot_template (first_slot ps)) (map (λ b. b.0) below)) ≡ true
  below_bound [] e = refl
  below_bound (b ∷ below) e =
      let both = both_true (template_is_bound ps b.0) (list_all (template_is_bound ps) (map (λ b. b.0) below)) e in
      λ i. b.1 both.0 i && below_bound below both.1 i

  pub template_bound : (t : Template) → TemplateBound t
  template_bound = templates_induction TemplateBound
      (λ x h. ap (template_is_within (length ps)) (slotted_variable (first_slot ps) x) ∙ slot_within (length ps) (first_slot ps x)
      ∙ lt-ltb (first_slot ps x) (length ps) (bound_slot ps x (sym (bound_variable ps x) ∙ h)))
      (λ text h. ap (template_is_within (length ps)) (slotted_literal (first_slot ps) text) ∙ text_within (length ps) text)
      (λ tag attributes below h.
      let both = both_true (list_all (λ a. operand_is_bound ps a.value) attributes) (list_all (template_is_bound ps) (map (λ b. b.0) below)) (sym (bound_element ps tag attributes (map (λ b. b.0) below)) ∙ h) in
      ap (template_is_within (length ps)) (slotted_element (first_slot ps) tag attributes (map (λ b. b.0) below))
      ∙ element_within (length ps) tag (map (slot_attribute_of (first_slot ps)) attributes) (map (slot_template (first_slot ps)) (map (λ b. b.0) below))
      ∙ (λ i. attributes_bound attributes both.0 i && below_bound below both.1 i))

-- ---- all

pub query_formed : (query : Query) → begins_with_match query.items ≡ true → list_all item_is_whole query.items ≡ true → AreWithin query.items → all_paths is_formed query.items ≡ true
    → list_all (item_is_bound (places_of (arms_of query.items))) query.items ≡ true → template_is_bound (places_of (arms_of query.items)) query.template ≡ true
    → formed.IsWellFormed (normal_query query)
query_formed query begins whole within paths bound template =
    let items = query.items in
    let ps = places_of (arms_of items) in
    let cs = constraints_of ps items in
    let count : length (map (normal_arm cs) (open_arms 0 (arms_of items))) ≡ counted.arms items
    = length-map (open_arms 0 (arms_of items)) (normal_arm cs) ∙ open_count 0 (arms_of items) ∙ arms_count items in
    let some : 0 < length (arms_of items) = some_arm items begins whole in
    let wide : length ps ≡ slots items = slots_count_is items in
    let same : arms_width (map (normal_arm cs) (open_arms 0 (arms_of items))) ≡ length ps = arms_width_is cs 0 (arms_of items) in
    let near : length (constraints_from (first_slot ps) 0 ps) ≤ length ps = places_count (first_slot ps) 0 ps in
    let far : length (flat_map (item_constraints (first_slot ps)) items) ≤ conditions items = items_count (first_slot ps) items in
    let all : length cs ≡ length (constraints_from (first_slot ps) 0 ps) + length (flat_map (item_constraints (first_slot ps)) items)
    = length-append (constraints_from (first_slot ps) 0 ps) (flat_map (item_constraints (first_slot ps)) items) in
    let e : entries equal_in (open_arms 0 (arms_of items)) cs ≤ length cs = entries_at_most equal_in (open_arms 0 (arms_of items)) (one_equal (arms_of items)) cs in
    let f : equals_in (map (normal_arm cs) (open_arms 0 (arms_of items))) ≤ entries equal_in (open_arms 0 (arms_of items)) cs = equals_at_most cs (open_arms 0 (arms_of items)) in
    let g : entries range_in (open_arms 0 (arms_of items)) cs ≡ entries range_in (open_arms 0 (arms_of items)) (constraints_from (first_slot ps) 0 ps) + entries range_in (open_arms 0 (arms_of items)) (flat_map (item_constraints (first_slot ps)) items)
    = entries-append range_in (open_arms 0 (arms_of items)) (constraints_from (first_slot ps) 0 ps) (flat_map (item_constraints (first_slot ps)) items) in
    let h : entries range_in (open_arms 0 (arms_of items)) (constraints_from (first_slot ps) 0 ps) ≡ 0 = places_ranges (first_slot ps) 0 ps (open_arms 0 (arms_of items)) in
    let k : entries range_in (open_arms 0 (arms_of items)) (flat_map (item_constraints (first_slot ps)) items) ≤ length (flat_map (item_constraints (first_slot ps)) items)
    = entries_at_most range_in (open_arms 0 (arms_of items)) (one_range (arms_of items)) (flat_map (item_constraints (first_slot ps)) items) in
    let l : ranges_in (map (normal_arm cs) (open_arms 0 (arms_of items))) ≤ entries range_in (open_arms 0 (arms_of items)) cs = ranges_at_most cs (open_arms 0 (arms_of items)) in
    let few : counted.arms items ≤ 8 = within.0 in
    let narrow : slots items ≤ 64 = within.1 in
    let simple : conditions items ≤ 32 = within.2 in
    record {
      some = let c : length (map (normal_arm cs) (open_arms 0 (arms_of items))) ≡ length (arms_of items) = length-map (open_arms 0 (arms_of items)) (normal_arm cs) ∙ open_count 0 (arms_of items) in omega arith;
      few = omega arith;
      slots = omega arith;
      equals = omega arith;
      ranges = omega arith;
      arms = arms_fit cs 0 (arms_of items);
      paths = arms_are_formed cs items ∙ paths;
      residual = ap (λ n. list_all (check_is_within n) (residual_of (open_arms 0 (arms_of items)) cs)) same ∙ residual_bound (length ps) (open_arms 0 (arms_of items)) cs (constraints_in ps items bound);
      template = ap (λ n. template_is_within n (slot_template (first_slot ps) query.template)) same ∙ template_bound ps query.template template;
    }
