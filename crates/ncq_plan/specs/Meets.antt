-- What selections and joins ask of rows.
use Rattle.std.specs.Prelude.{ℕ, Bool, List}
use Rattle.std.specs.List.{list_all}
use Rattle.ncq_base.specs.declared.atom.Atom.{Atom}
use Rattle.ncq_base.specs.Atoms.{same_atom}
use Rattle.ncq_row.specs.Values.{atom_at}
use Rattle.ncq_row.specs.Embeddings.{Row}
use Rattle.ncq_row.specs.declared.pair.Pair.{Pair}
use Rattle.ncq_base.specs.declared.interval.Interval.{Interval}
use Rattle.ncq_base.specs.Intervals.{in_interval}

-- whether the slot has the constant's atom
abbrev pub has_atom : ℕ → Atom → Row → Bool
has_atom slot constant row = same_atom (atom_at row slot) constant

-- whether the slot is a number in the interval
abbrev pub is_within : ℕ → Interval → Row → Bool
is_within slot interval row = in_interval interval (atom_at row slot)

-- whether the left slot of the one row and the right slot of the other have the same atom
abbrev pub pair_agrees : Row → Row → Pair → Bool
pair_agrees left right pair = same_atom (atom_at left pair.left) (atom_at right pair.right)

-- whether each of the pairs has the same atom
abbrev pub agree : List Pair → Row → Row → Bool
agree pairs left right = list_all (pair_agrees left right) pairs
