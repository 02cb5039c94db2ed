-- What a query asks of a row, by slots.
use Rattle.std.specs.Prelude.{ℕ, suc, ◌==◌, min, max, if◌then◌else◌, List, [], ◌∷◌, ◌++◌}
use Rattle.std.specs.List.{flat_map}
use Rattle.ncq_base.specs.declared.atom.Atom.{Atom}
use Rattle.ncq_base.specs.declared.atom.Atom.TheVariants.{Num, Text}
use Rattle.ncq_base.specs.declared.atom.Op.{Op}
use Rattle.ncq_base.specs.declared.atom.Op.TheVariants.{Eq, Ne, Lt, Le, Gt, Ge}
use Rattle.ncq_base.specs.Atoms.{atom_of}
use Rattle.std.specs.Str.{bytes_eq}
use Rattle.ncq_plan.specs.declared.residual.Side.TheVariants.{Slot, Constant}
use Rattle.ncq_plan.specs.declared.residual.Check.TheVariants.{Compare, Satisfies as Asked}
use Rattle.ncq_xmlql.specs.declared.model.Operand.{Operand}
use Rattle.ncq_xmlql.specs.declared.model.Operand.TheVariants.{Variable, Literal}
use Rattle.ncq_xmlql.specs.declared.model.QueryItem.{QueryItem}
use Rattle.ncq_xmlql.specs.declared.model.QueryItem.TheVariants.{Match, Condition, Satisfies}
use Rattle.ncq_bind.specs.Answers.{argument_atom}
use Rattle.ncq_bind.specs.declared.constraint.Constraint.{Constraint}
use Rattle.ncq_bind.specs.declared.constraint.Constraint.TheVariants.{Equal, Bound, Alike, Other}

-- the first slot of a variable; the number of the places where it has none
abbrev pub first_slot : List Operand → List ℕ → ℕ
first_slot [] x = 0
first_slot ((Variable y) ∷ places) x = if bytes_eq x y then 0 else suc (first_slot places x)
first_slot ((Literal text) ∷ places) x = suc (first_slot places x)

-- a literal asks for its atom; a further occurrence of a variable for the atom of the first
abbrev pub place_constraints : (List ℕ → ℕ) → ℕ → Operand → List Constraint
place_constraints first slot (Literal text) = Equal slot (atom_of text) ∷ []
place_constraints first slot (Variable x) =
    if first x == slot then [] else Alike (first x) slot ∷ []

-- the same of each place, the first at this slot
abbrev pub constraints_from : (List ℕ → ℕ) → ℕ → List Operand → List Constraint
constraints_from first slot [] = []
constraints_from first slot (operand ∷ places) =
    place_constraints first slot operand ++ constraints_from first (suc slot) places

-- the same comparison with its sides exchanged
abbrev pub turned : Op → Op
turned Eq = Eq
turned Ne = Ne
turned Lt = Gt
turned Le = Ge
turned Gt = Lt
turned Ge = Le

-- a comparison of order with a number is a bound, and with a text a test
abbrev pub order_constraint : Op → ℕ → Atom → Constraint
order_constraint op slot (Num n) = Bound slot op n
order_constraint op slot (Text text) =
    Other (Compare (record { op = op; left = slot; right = Constant (Text text) }))

-- a slot compared with a constant
abbrev pub constant_constraint : Op → ℕ → Atom → Constraint
constant_constraint Eq slot constant = Equal slot constant
constant_constraint Ne slot constant =
    Other (Compare (record { op = Ne; left = slot; right = Constant constant }))
constant_constraint Lt slot constant = order_constraint Lt slot constant
constant_constraint Le slot constant = order_constraint Le slot constant
constant_constraint Gt slot constant = order_constraint Gt slot constant
constant_constraint Ge slot constant = order_constraint Ge slot constant

-- two slots that have one atom, the smaller first; nothing where they are one slot
abbrev pub alike : ℕ → ℕ → List Constraint
alike a b = if a == b then [] else Alike (min a b) (max a b) ∷ []

-- two slots compared
abbrev pub slots_constraints : Op → ℕ → ℕ → List Constraint
slots_constraints Eq a b = alike a b
slots_constraints Ne a b = Other (Compare (record { op = Ne; left = a; right = Slot b })) ∷ []
slots_constraints Lt a b = Other (Compare (record { op = Lt; left = a; right = Slot b })) ∷ []
slots_constraints Le a b = Other (Compare (record { op = Le; left = a; right = Slot b })) ∷ []
slots_constraints Gt a b = Other (Compare (record { op = Gt; left = a; right = Slot b })) ∷ []
slots_constraints Ge a b = Other (Compare (record { op = Ge; left = a; right = Slot b })) ∷ []

-- a condition, by the first slots of its variables; one with a literal on the left is turned round
abbrev pub condition_constraints : (List ℕ → ℕ) → Operand → Op → Operand → List Constraint
condition_constraints first (Variable x) op (Variable y) =
    slots_constraints op (first x) (first y)
condition_constraints first (Variable x) op (Literal text) =
    constant_constraint op (first x) (atom_of text) ∷ []
condition_constraints first (Literal text) op (Variable x) =
    constant_constraint (turned op) (first x) (atom_of text) ∷ []
condition_constraints first (Literal s) op (Literal t) = []

-- what an item asks
abbrev pub item_constraints : (List ℕ → ℕ) → QueryItem → List Constraint
item_constraints first (Match root arms source) = []
item_constraints first (Condition left op right) = condition_constraints first left op right
item_constraints first (Satisfies variable predicate argument) =
    Other (Asked (first variable) predicate (argument_atom argument)) ∷ []

-- what the places ask, then what the conditions ask, each in reading order
abbrev pub constraints_of : List Operand → List QueryItem → List Constraint
constraints_of places items =
    let first = first_slot places in
    constraints_from first 0 places ++ flat_map (item_constraints first) items
