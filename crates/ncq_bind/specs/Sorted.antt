-- Lists that rise by an order, and hold no two items that are tied.
use Rattle.std.specs.Prelude.{List, [], ◌∷◌}
use Rattle.std.specs.declared.cmp.Ordering.{Ordering}
use Rattle.std.specs.declared.cmp.Ordering.TheVariants.{Less, Equal as Same, Greater}
use Rattle.std.specs.Ordering.{nat_cmp, ordering_then}
use Rattle.ncq_base.specs.Atoms.{atom_cmp}
use Rattle.ncq_row.specs.declared.pair.Pair.{Pair}
use Rattle.ncq_plan.specs.declared.query.EqualTo.{EqualTo}

-- the item put in its place among items that rise by the order; not a second time
abbrev pub insert_once : {A : Type 0} → (A → A → Ordering) → A → List A → List A
insert_once order item [] = item ∷ []
insert_once order item (other ∷ more) =
    elim (order item other) [
      | Less ↦ item ∷ other ∷ more
      | Same ↦ other ∷ more
      | Greater ↦ other ∷ insert_once order item more
    ]

-- the items put one by one into those that are sorted already
abbrev pub sorted_onto : {A : Type 0} → (A → A → Ordering) → List A → List A → List A
sorted_onto order done [] = done
sorted_onto order done (item ∷ items) = sorted_onto order (insert_once order item done) items

-- by slot, then by atom
abbrev pub equal_order : EqualTo → EqualTo → Ordering
equal_order a b = ordering_then (nat_cmp a.slot b.slot) (atom_cmp a.constant b.constant)

-- by the left slot, then by the right one
abbrev pub pair_order : Pair → Pair → Ordering
pair_order a b = ordering_then (nat_cmp a.left b.left) (nat_cmp a.right b.right)
