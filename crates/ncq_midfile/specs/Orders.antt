-- Rows in the order of the numbers in a slot. Only the crate's private clauses cite it.
use Rattle.std.specs.Prelude.{◌≡◌, ℕ, ℤ, Bool, true, cond, List, [], ◌∷◌, length, take}
use Rattle.std.specs.List.{AllByRecursion, list_any}
use Rattle.std.specs.List.Sorted.{IsStrictlySortedBy}
use Rattle.std.specs.Ordering.{int_cmp, int_eq}
use Rattle.ncq_base.specs.Intervals.{in_interval}
use Rattle.ncq_base.specs.declared.atom.Atom.{Atom}
use Rattle.ncq_base.specs.declared.atom.Atom.TheVariants.{Num, Text}
use Rattle.ncq_base.specs.declared.interval.Interval.{Interval}
use Rattle.ncq_row.specs.Values.{atom_at}
use Rattle.ncq_midfile.specs.Indexes.{Covers, cut_index}
use Rattle.ncq_midfile.specs.Matching.{is_wanted, places_where}
use Rattle.ncq_midfile.specs.declared.order.Order.{Order}
use Rattle.ncq_midfile.specs.declared.signed.SignedRow.{SignedRow}

-- whether the atom, if it is a number, is among the values
abbrev pub is_known : Atom → List ℤ → Bool
is_known (Num n) values = list_any (int_eq n) values
is_known (Text text) values = true

-- the numbers of the rows in the slot are among the values
abbrev pub AreValued : ℕ → List ℤ → List SignedRow → Type 0
AreValued slot values rows = AllByRecursion (λ r. is_known (atom_at r.row slot) values ≡ true) rows

-- the places of the rows with the value and numbers up to n, if it is one of the interval
abbrev pub with_value : ℕ → Interval → ℕ → ℕ → List SignedRow → ℤ → List ℕ
with_value slot interval n a rows value =
    cond (in_interval interval (Num value))
    (places_where (is_wanted (slot ∷ []) (Num value ∷ []) n) a rows) []

-- the order has the hashes of the first rows in its slot, and their numbers there, rising
pub record IsOrder (order : Order) (rows : List SignedRow) : Type 0 where
  pub covers : Covers order.index rows
  pub slots : order.index.slots ≡ order.slot ∷ []
  pub ordered : IsStrictlySortedBy int_cmp order.values.keys
  pub valued : AreValued order.slot order.values.keys (take (length order.index.hashes) rows)

-- the order of fewer rows
abbrev pub cut_order : ℕ → Order → Order
cut_order kept order = record {
  slot = order.slot;
  index = cut_index kept order.index;
  values = order.values;
}
