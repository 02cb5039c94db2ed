-- How one file reads another, and which rows it takes.
use Rattle.std.specs.Prelude.{ℕ, ◌<◌, Bool, List, length}
use Rattle.std.specs.List.{All}
use Rattle.ncq_base.specs.declared.atom.Atom.{Atom}
use Rattle.ncq_base.specs.declared.interval.Interval.{Interval}
use Rattle.ncq_base.specs.Atoms.{same_atom}
use Rattle.ncq_base.specs.Intervals.{in_interval}
use Rattle.ncq_row.specs.Values.{atom_at}
use Rattle.ncq_midfile.specs.declared.signed.SignedRow.{SignedRow}

-- a selection of the rows whose slot has the atom, one of those whose slot is a number in the
-- interval, or a join
pub data Reading : Type 0 where
  equal : ℕ → Atom → Reading
  range : ℕ → Interval → Reading
  joined : Reading

-- a selection of the slot takes the rows that pass the test; a join selects nothing
pub data IsSelection : Reading → ℕ → (SignedRow → Bool) → Type 0 where
  equal : (slot : ℕ) (constant : Atom)
      → IsSelection (Reading.equal slot constant) slot
      (λ r. same_atom (atom_at r.row slot) constant)
  range : (slot : ℕ) (interval : Interval)
      → IsSelection (Reading.range slot interval) slot
      (λ r. in_interval interval (atom_at r.row slot))

-- each of the rows has the slot
abbrev pub HaveSlot : ℕ → List SignedRow → Type 0
HaveSlot slot rows = All (λ r. slot < length r.row) rows
