-- What callers see of the files of each atom. Only the crate's private clauses cite it.
use Rattle.std.specs.Prelude.{ℕ, List, map}
use Rattle.indexmap.specs.IndexSet.{IndexSet}
use Rattle.ncq_base.specs.declared.atom.Atom.{Atom}
use Rattle.ncq_holders.specs.Held.{Held}

-- each atom with the numbers that its set has
abbrev pub held_in : {S : Type 0} → List (Atom × IndexSet ℕ S) → Held
held_in entries = map (λ e. (e.0, e.1.keys)) entries
