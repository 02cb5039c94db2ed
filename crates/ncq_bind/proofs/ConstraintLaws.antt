-- A row meets the constraints of a query exactly where it is a binding.
use Rattle.std.proofs.Common.{◌≡◌, ℕ, suc, ◌+◌, ◌<◌, ◌≤◌, min, max, Bool, true, false, List, [], ◌∷◌, ◌++◌, length, refl, sym, ap, ◌∙◌, subst, arith, append_assoc, length-append, eqb-true}
use Rattle.std.proofs.lemmas.Bool.{lt-ltb}
use Rattle.ncq_plan.specs.Residuals.{check_is_within}
use Rattle.std.specs.Prelude.{◌&&◌, ◌==◌, nat_lt, if◌then◌else◌, ℤ}
use Rattle.std.specs.List.{list_all, flat_map}
use Rattle.std.specs.declared.cmp.Ordering.{Ordering}
use Rattle.std.specs.declared.cmp.Ordering.TheVariants.{Less, Equal as Same, Greater}
use Rattle.std.specs.Ordering.{is_lt, is_gt, nat_cmp, MatchOrdering}
use Rattle.std.specs.Prelude.{int_le, int_lt, cond}
use Rattle.std.proofs.lemmas.Int.{ints}
use Rattle.std.proofs.lemmas.Cmp.{ranked}
use Rattle.ncq_base.specs.declared.atom.Atom.{Atom}
use Rattle.ncq_base.specs.declared.atom.Atom.TheVariants.{Num, Text}
use Rattle.ncq_base.specs.declared.atom.Op.{Op}
use Rattle.ncq_base.specs.declared.atom.Op.TheVariants.{Eq, Ne, Lt, Le, Gt, Ge}
use Rattle.ncq_base.specs.Atoms.{atom_of, same_atom, holds_of}
use Rattle.ncq_row.specs.declared.value.Value.{Value}
use Rattle.ncq_row.specs.Values.{value_atom}
use Rattle.ncq_row.specs.Values.{value_at, atom_at}
use Rattle.std.specs.List.{AllByRecursion}
use Rattle.ncq_bind.proofs.ListLaws.{each-append}
use Rattle.std.proofs.lemmas.List.Folds.{list_all-append}
use Rattle.ncq_base.specs.Intervals.{in_interval}
use Rattle.ncq_plan.specs.Residuals.{check_holds}
use Rattle.ncq_plan.specs.Relations.{Relations, relation_in, satisfies}
use Rattle.ncq_xmlql.specs.declared.model.Operand.{Operand}
use Rattle.ncq_xmlql.specs.declared.model.Operand.TheVariants.{Variable, Literal}
use Rattle.ncq_xmlql.specs.declared.model.QueryItem.{QueryItem}
use Rattle.ncq_xmlql.specs.declared.model.QueryItem.TheVariants.{Match, Condition, Satisfies}
use Rattle.ncq_xmlql.specs.WellFormed.{item_is_whole}
use Rattle.ncq_bind.specs.declared.constraint.Constraint.{Constraint}
use Rattle.ncq_bind.specs.declared.constraint.Constraint.TheVariants.{Equal, Bound, Alike, Other}
use Rattle.ncq_bind.specs.Embeddings.{has_literals}
use Rattle.ncq_bind.specs.Answers.{all_agree as values_agree, argument_atom, item_holds}
use Rattle.ncq_bind.specs.Constraints.{first_slot, place_constraints, constraints_from, turned, constant_constraint, slots_constraints, item_constraints, constraints_of}
use Rattle.ncq_bind.specs.Ranges.{one_sided}
use Rattle.ncq_bind.specs.Bound.{is_bound, item_is_bound}
use Rattle.std.proofs.Math.Bool.{and-true, and_assoc}
use Rattle.ncq_bind.proofs.Bools.{and_front}
use Rattle.ncq_base.proofs.Tests.{both_true}
use Rattle.ncq_bind.proofs.AtomLaws.{same_itself, same_symmetric, turned_holds}
use Rattle.ncq_bind.proofs.Slots.{bound_slot, slot_before}

-- what a constraint asks of a row
abbrev pub constraint_holds : Relations → List Value → Constraint → Bool
constraint_holds relations row (Equal slot constant) = same_atom (atom_at row slot) constant
constraint_holds relations row (Bound slot op number) = in_interval (one_sided op number) (atom_at row slot)
constraint_holds relations row (Alike left right) = same_atom (atom_at row left) (atom_at row right)
constraint_holds relations row (Other check) = check_holds relations row check

-- ---- atoms

lt_by : (a b : Bool) → a ≡ is_lt (cond a Less (cond b Greater Same))
lt_by true b = refl
lt_by false true = refl
lt_by false false = refl

gt_by : (a b : Bool) → (b ≡ true → a ≡ false) → b ≡ is_gt (cond a Less (cond b Greater Same))
gt_by true true h = absurd (let c : true ≡ false = h refl in cc)
gt_by true false h = refl
gt_by false true h = refl
gt_by false false h = refl

lt_bound : (a : Atom) (n : ℤ) → in_interval (one_sided Lt n) a ≡ holds_of Lt a (Num n)
lt_bound (Num m) n = lt_by (int_lt m n) (int_lt n m)
lt_bound (Text t) n = refl

le_bound : (a : Atom) (n : ℤ) → in_interval (one_sided Le n) a ≡ holds_of Le a (Num n)
le_bound (Num m) n = grind (arith, ints)
le_bound (Text t) n = refl

gt_bound : (a : Atom) (n : ℤ) → in_interval (one_sided Gt n) a ≡ holds_of Gt a (Num n)
gt_bound (Num m) n = and-true (int_lt n m) ∙ gt_by (int_lt m n) (int_lt n m) (λ e. grind (arith, ints))
gt_bound (Text t) n = refl

ge_bound : (a : Atom) (n : ℤ) → in_interval (one_sided Ge n) a ≡ holds_of Ge a (Num n)
ge_bound (Num m) n = and-true (int_le n m) ∙ grind (arith, ints)
ge_bound (Text t) n = refl

in_order : (row : List Value) (a c : ℕ) (o : Ordering) → MatchOrdering o (a < c) (a ≡ c) (c < a)
    → same_atom (atom_at row (min a c)) (atom_at row (max a c)) ≡ same_atom (atom_at row a) (atom_at row c)
in_order row a c Less h =
    let p : min a c ≡ a = omega arith in
    let q : max a c ≡ c = omega arith in
    λ i. same_atom (atom_at row (p i)) (atom_at row (q i))
in_order row a c Same h =
    let p : min a c ≡ a = omega arith in
    let q : max a c ≡ c = omega arith in
    λ i. same_atom (atom_at row (p i)) (atom_at row (q i))
in_order row a c Greater h =
    let p : min a c ≡ c = omega arith in
    let q : max a c ≡ a = omega arith in
    (λ i. same_atom (atom_at row (p i)) (atom_at row (q i))) ∙ same_symmetric (atom_at row c) (atom_at row a)

-- ---- places

module _ (relations : Relations) (row : List Value) (first : List ℕ → ℕ) (value : List ℕ → Value) (ties : (x : List ℕ) → value_at row (first x) ≡ value x) where
  occurrence : (b : Bool) (x : List ℕ) (slot : ℕ) (v : Value) (more : List Constraint) (h g : Bool)
      → (first x == slot) ≡ b → value_at row slot ≡ v → list_all (constraint_holds relations row) more ≡ (h && g)
      → list_all (constraint_holds relations row) ((if b then [] else Alike (first x) slot ∷ []) ++ more) ≡ (h && (same_atom (value_atom (value x)) (value_atom v) && g))
  occurrence true x slot v more h g t e m =
      let one : value x ≡ v = sym (ties x) ∙ ap (value_at row) (eqb-true (first x) slot t) ∙ e in
      m ∙ ap (λ s. h && (s && g)) (sym (ap (λ w. same_atom (value_atom w) (value_atom v)) one ∙ same_itself (value_atom v)))
  occurrence false x slot v more h g t e m =
      (λ i. same_atom (value_atom (ties x i)) (value_atom (e i)) && m i) ∙ and_front (same_atom (value_atom (value x)) (value_atom v)) h g

  pub places_hold : (slot : ℕ) (places : List Operand) (rest : List Value) → length rest ≡ length places → ((k : ℕ) → value_at row (slot + k) ≡ value_at rest k)
      → list_all (constraint_holds relations row) (constraints_from first slot places) ≡ (has_literals places rest && values_agree value places rest)
  places_hold slot [] rest e same = refl
  places_hold slot (o ∷ places) [] e same = absurd cc
  places_hold slot ((Literal text) ∷ places) (v ∷ rest) e same =
      let less : length rest ≡ length places = cc in
      let here : value_at row slot ≡ v = ap (value_at row) (omega arith) ∙ same 0 in
      (λ i. same_atom (value_atom (here i)) (atom_of text) && places_hold (suc slot) places rest less (λ k. ap (value_at row) (omega arith) ∙ same (suc k)) i)
      ∙ sym (and_assoc (same_atom (value_atom v) (atom_of text)) (has_literals places rest) (values_agree value places rest))
  places_hold slot ((Variable x) ∷ places) (v ∷ rest) e same =
      let less : length rest ≡ length places = cc in
      let here : value_at row slot ≡ v = ap (value_at row) (omega arith) ∙ same 0 in
      occurrence (first x == slot) x slot v (constraints_from first (suc slot) places) (has_literals places rest) (values_agree value places rest) refl here
      (places_hold (suc slot) places rest less (λ k. ap (value_at row) (omega arith) ∙ same (suc k)))

  -- ---- conditions

  alike_by : (b : Bool) (a c : ℕ) → (a == c) ≡ b
      → list_all (constraint_holds relations row) (if b then [] else Alike (min a c) (max a c) ∷ []) ≡ same_atom (atom_at row a) (atom_at row c)
  alike_by true a c e = sym (ap (λ s. same_atom (atom_at row s) (atom_at row c)) (eqb-true a c e) ∙ same_itself (atom_at row c))
  alike_by false a c e = and-true (same_atom (atom_at row (min a c)) (atom_at row (max a c))) ∙ in_order row a c (nat_cmp a c) (ranked a c (nat_cmp a c) refl)

  slots_hold : (op : Op) (a c : ℕ) → list_all (constraint_holds relations row) (slots_constraints op a c) ≡ holds_of op (atom_at row a) (atom_at row c)
  slots_hold Eq a c = alike_by (a == c) a c refl
  slots_hold Ne a c = and-true (holds_of Ne (atom_at row a) (atom_at row c))
  slots_hold Lt a c = and-true (holds_of Lt (atom_at row a) (atom_at row c))
  slots_hold Le a c = and-true (holds_of Le (atom_at row a) (atom_at row c))
  slots_hold Gt a c = and-true (holds_of Gt (atom_at row a) (atom_at row c))
  slots_hold Ge a c = and-true (holds_of Ge (atom_at row a) (atom_at row c))

  constant_holds : (op : Op) (slot : ℕ) (constant : Atom) → constraint_holds relations row (constant_constraint op slot constant) ≡ holds_of op (atom_at row slot) constant
  constant_holds Eq slot constant = refl
  constant_holds Ne slot constant = refl
  constant_holds Lt slot (Num n) = lt_bound (atom_at row slot) n
  constant_holds Lt slot (Text t) = refl
  constant_holds Le slot (Num n) = le_bound (atom_at row slot) n
  constant_holds Le slot (Text t) = refl
  constant_holds Gt slot (Num n) = gt_bound (atom_at row slot) n
  constant_holds Gt slot (Text t) = refl
  constant_holds Ge slot (Num n) = ge_bound (atom_at row slot) n
  constant_holds Ge slot (Text t) = refl

  item_holds_by : (item : QueryItem) → item_is_whole item ≡ true → list_all (constraint_holds relations row) (item_constraints first item) ≡ item_holds relations value item
  item_holds_by (Match root arms source) e = refl
  item_holds_by (Condition (Variable x) op (Variable y)) e =
      slots_hold op (first x) (first y) ∙ (λ i. holds_of op (value_atom (ties x i)) (value_atom (ties y i)))
  item_holds_by (Condition (Variable x) op (Literal text)) e =
      and-true (constraint_holds relations row (constant_constraint op (first x) (atom_of text)))
      ∙ constant_holds op (first x) (atom_of text) ∙ ap (λ v. holds_of op (value_atom v) (atom_of text)) (ties x)
  item_holds_by (Condition (Literal text) op (Variable x)) e =
      and-true (constraint_holds relations row (constant_constraint (turned op) (first x) (atom_of text)))
      ∙ constant_holds (turned op) (first x) (atom_of text) ∙ turned_holds op (atom_of text) (atom_at row (first x))
      ∙ ap (λ v. holds_of op (atom_of text) (value_atom v)) (ties x)
  item_holds_by (Condition (Literal s) op (Literal t)) e = absurd cc
  item_holds_by (Satisfies variable predicate argument) e =
      and-true (satisfies (relation_in predicate relations) (atom_at row (first variable)) (argument_atom argument))
      ∙ ap (λ v. satisfies (relation_in predicate relations) (value_atom v) (argument_atom argument)) (ties variable)

  pub items_hold : (items : List QueryItem) → list_all item_is_whole items ≡ true
      → list_all (constraint_holds relations row) (flat_map (item_constraints first) items) ≡ list_all (item_holds relations value) items
  items_hold [] e = refl
  items_hold (item ∷ items) e =
      let both = both_true (item_is_whole item) (list_all item_is_whole items) e in
      list_all-append (constraint_holds relations row) (item_constraints first item) (flat_map (item_constraints first) items)
      ∙ (λ i. item_holds_by item both.0 i && items_hold items both.1 i)

-- ---- slots within the row

-- the slots of a constraint are among this many, and the left one of two is not the greater
abbrev pub InRange : ℕ → Constraint → Type 0
InRange total (Equal slot constant) = slot < total
InRange total (Bound slot op number) = slot < total
InRange total (Alike left right) = (left ≤ right) × (right < total)
InRange total (Other check) = check_is_within total check ≡ true

occurrence_in : (b : Bool) (total f slot : ℕ) → f ≤ slot → slot < total → AllByRecursion (InRange total) (if b then [] else Alike f slot ∷ [])
occurrence_in true total f slot h k = tt
occurrence_in false total f slot h k = ((h, k), tt)

places_in : (whole front rest : List Operand) (slot : ℕ) → whole ≡ front ++ rest → slot ≡ length front → AllByRecursion (InRange (length whole)) (constraints_from (first_slot whole) slot rest)
places_in whole front [] slot e s = tt
places_in whole front (o ∷ rest) slot e s =
    let room : length whole ≡ length front + suc (length rest) = ap length e ∙ length-append front (o ∷ rest) in
    let below : slot < length whole = omega arith in
    let next : whole ≡ (front ++ o ∷ []) ++ rest = e ∙ sym (append_assoc front (o ∷ []) rest) in
    let at : suc slot ≡ length (front ++ o ∷ []) = omega (arith, length-append front (o ∷ [])) in
    each-append (InRange (length whole)) (place_constraints (first_slot whole) slot o) (constraints_from (first_slot whole) (suc slot) rest)
    (place_in o e below) (places_in whole (front ++ o ∷ []) rest (suc slot) next at)
  where
    place_in : (o : Operand) → whole ≡ front ++ o ∷ rest → slot < length whole → AllByRecursion (InRange (length whole)) (place_constraints (first_slot whole) slot o)
    place_in (Literal text) e below = (below, tt)
    place_in (Variable x) e below =
        let before : first_slot whole x ≤ length front = subst (λ w. first_slot w x ≤ length front) (sym e) (slot_before front rest x) in
        occurrence_in (first_slot whole x == slot) (length whole) (first_slot whole x) slot (omega arith) below

alike_in : (b : Bool) (total a c : ℕ) → a < total → c < total → AllByRecursion (InRange total) (if b then [] else Alike (min a c) (max a c) ∷ [])
alike_in true total a c h k = tt
alike_in false total a c h k = ((omega arith, omega arith), tt)

both_below : (total a c : ℕ) → a < total → c < total → (nat_lt a total && nat_lt c total) ≡ true
both_below total a c h k = rw (lt-ltb a total h, lt-ltb c total k) refl

one_below : (total a : ℕ) → a < total → (nat_lt a total && true) ≡ true
one_below total a h = rw (lt-ltb a total h) refl

slots_in : (op : Op) (total a c : ℕ) → a < total → c < total → AllByRecursion (InRange total) (slots_constraints op a c)
slots_in Eq total a c h k = alike_in (a == c) total a c h k
slots_in Ne total a c h k = (both_below total a c h k, tt)
slots_in Lt total a c h k = (both_below total a c h k, tt)
slots_in Le total a c h k = (both_below total a c h k, tt)
slots_in Gt total a c h k = (both_below total a c h k, tt)
slots_in Ge total a c h k = (both_below total a c h k, tt)

constant_in : (op : Op) (total slot : ℕ) (constant : Atom) → slot < total → InRange total (constant_constraint op slot constant)
constant_in Eq total slot constant h = h
constant_in Ne total slot constant h = one_below total slot h
constant_in Lt total slot (Num n) h = h
constant_in Lt total slot (Text t) h = one_below total slot h
constant_in Le total slot (Num n) h = h
constant_in Le total slot (Text t) h = one_below total slot h
constant_in Gt total slot (Num n) h = h
constant_in Gt total slot (Text t) h = one_below total slot h
constant_in Ge total slot (Num n) h = h
constant_in Ge total slot (Text t) h = one_below total slot h

item_in : (places : List Operand) (item : QueryItem) → item_is_bound places item ≡ true → AllByRecursion (InRange (length places)) (item_constraints (first_slot places) item)
item_in places (Match root arms source) e = tt
item_in places (Condition (Variable x) op (Variable y)) e =
    let both = both_true (is_bound places x) (is_bound places y) e in
    slots_in op (length places) (first_slot places x) (first_slot places y) (bound_slot places x both.0) (bound_slot places y both.1)
item_in places (Condition (Variable x) op (Literal text)) e =
    let both = both_true (is_bound places x) true e in
    (constant_in op (length places) (first_slot places x) (atom_of text) (bound_slot places x both.0), tt)
item_in places (Condition (Literal text) op (Variable x)) e = (constant_in (turned op) (length places) (first_slot places x) (atom_of text) (bound_slot places x e), tt)
item_in places (Condition (Literal s) op (Literal t)) e = tt
item_in places (Satisfies variable predicate argument) e = (lt-ltb (first_slot places variable) (length places) (bound_slot places variable e), tt)

items_in : (places : List Operand) (items : List QueryItem) → list_all (item_is_bound places) items ≡ true
    → AllByRecursion (InRange (length places)) (flat_map (item_constraints (first_slot places)) items)
items_in places [] e = tt
items_in places (item ∷ items) e =
    let both = both_true (item_is_bound places item) (list_all (item_is_bound places) items) e in
    each-append (InRange (length places)) (item_constraints (first_slot places) item) (flat_map (item_constraints (first_slot places)) items)
    (item_in places item both.0) (items_in places items both.1)

pub constraints_in : (places : List Operand) (items : List QueryItem) → list_all (item_is_bound places) items ≡ true → AllByRecursion (InRange (length places)) (constraints_of places items)
constraints_in places items e =
    each-append (InRange (length places)) (constraints_from (first_slot places) 0 places) (flat_map (item_constraints (first_slot places)) items)
    (places_in places [] places 0 refl refl) (items_in places items e)
