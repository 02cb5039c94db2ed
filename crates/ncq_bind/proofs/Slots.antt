-- The first slot of a variable has the variable's first value.
use Rattle.std.proofs.Common.{◌≡◌, ℕ, suc, ◌<◌, ◌≤◌, Bool, true, false, List, [], ◌∷◌, ◌++◌, length, refl, arith}
use Rattle.std.specs.Prelude.{◌||◌, if◌then◌else◌}
use Rattle.std.specs.Str.{bytes_eq}
use Rattle.std.proofs.lemmas.Cmp.{nat_list_eq_equiv}
use Rattle.ncq_row.specs.declared.value.Value.{Value}
use Rattle.ncq_row.specs.Values.{value_at}
use Rattle.ncq_xmlql.specs.declared.model.Operand.{Operand}
use Rattle.ncq_xmlql.specs.declared.model.Operand.TheVariants.{Variable, Literal}
use Rattle.ncq_bind.specs.Answers.{first_value}
use Rattle.ncq_bind.specs.Constraints.{first_slot}
use Rattle.ncq_bind.specs.Bound.{is_bound}

first_by : (b : Bool) (v : Value) (row : List Value) (n : ℕ) (w : Value) → value_at row n ≡ w → value_at (v ∷ row) (if b then 0 else suc n) ≡ (if b then v else w)
first_by true v row n w e = refl
first_by false v row n w e = e

pub first_is : (places : List Operand) (row : List Value) (x : List ℕ) → length row ≡ length places → value_at row (first_slot places x) ≡ first_value places row x
first_is [] [] x e = refl
first_is [] (v ∷ row) x e = absurd cc
first_is (o ∷ places) [] x e = absurd cc
first_is ((Variable y) ∷ places) (v ∷ row) x e =
    let less : length row ≡ length places = cc in
    first_by (bytes_eq x y) v row (first_slot places x) (first_value places row x) (first_is places row x less)
first_is ((Literal text) ∷ places) (v ∷ row) x e =
    let less : length row ≡ length places = cc in
    first_is places row x less

slot_by : (b c : Bool) (n m : ℕ) → (b || c) ≡ true → (c ≡ true → n < m) → (if b then 0 else suc n) < suc m
slot_by true c n m e h = omega arith
slot_by false c n m e h = let less : n < m = h e in omega arith

-- a variable that has a place has its first slot among the places
pub bound_slot : (places : List Operand) (x : List ℕ) → is_bound places x ≡ true → first_slot places x < length places
bound_slot [] x e = absurd cc
bound_slot ((Variable y) ∷ places) x e = slot_by (bytes_eq x y) (is_bound places x) (first_slot places x) (length places) e (bound_slot places x)
bound_slot ((Literal text) ∷ places) x e = let less : first_slot places x < length places = bound_slot places x e in omega arith

-- a variable at a place has its first slot there or before
pub slot_before : (front rest : List Operand) (x : List ℕ) → first_slot (front ++ Variable x ∷ rest) x ≤ length front
slot_before [] rest x = rw (nat_list_eq_equiv.refl x) (omega arith)
slot_before ((Variable y) ∷ front) rest x = before_by (bytes_eq x y) (first_slot (front ++ Variable x ∷ rest) x) (length front) (slot_before front rest x)
  where
    before_by : (b : Bool) (n m : ℕ) → n ≤ m → (if b then 0 else suc n) ≤ suc m
    before_by true n m h = omega arith
    before_by false n m h = omega arith
slot_before ((Literal text) ∷ front) rest x = let less : first_slot (front ++ Variable x ∷ rest) x ≤ length front = slot_before front rest x in omega arith
