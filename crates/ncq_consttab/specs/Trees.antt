-- Trees of intervals with their files. Only the crate's private clauses cite it.
use Rattle.std.specs.Prelude.{◌≡◌, Bool, true, false, ◌&&◌, List, [], ◌∷◌, ◌++◌, nat_eq}
use Rattle.std.specs.List.{AllByRecursion}
use Rattle.ncq_base.specs.Counts.{SameCounts}
use Rattle.ncq_base.specs.Intervals.{in_interval}
use Rattle.ncq_base.specs.Keys.{times}
use Rattle.ncq_base.specs.declared.atom.Atom.{Atom}
use Rattle.ncq_base.specs.declared.atom.FileId.{FileId}
use Rattle.ncq_base.specs.declared.interval.Interval.{Interval}
use Rattle.ncq_consttab.specs.Ranges.{is_interval}
use Rattle.ncq_consttab.specs.declared.tree.Fork.{Fork}
use Rattle.ncq_consttab.specs.declared.tree.Node.{Node}
use Rattle.ncq_consttab.specs.declared.tree.Node.TheVariants.{Leaf, Inner}

-- what holds a value in the first interval holds it in the second
abbrev pub IsWithin : Interval → Interval → Type 0
IsWithin a b = (value : Atom) → in_interval a value ≡ true → in_interval b value ≡ true

-- the interval is round each of the entries' intervals
abbrev pub Spans : Interval → List (Interval × FileId) → Type 0
Spans span entries = AllByRecursion (λ e. IsWithin e.0 span) entries

-- the entries of a fork in order
abbrev pub fork_entries : Fork → List (Interval × FileId)
fork_entries fork = fork.left ++ fork.entry ∷ fork.right

-- the entries of a node in order
abbrev pub node_entries : Node → List (Interval × FileId)
node_entries Leaf = []
node_entries (Inner fork) = fork_entries fork.value

-- the span of a fork is round all of its entries
abbrev pub IsSpanned : Node → Type 0
IsSpanned Leaf = Unit {0}
IsSpanned (Inner fork) = Spans fork.value.span (fork_entries fork.value)

-- whether the two are one interval with one file
abbrev pub is_entry : Interval × FileId → Interval × FileId → Bool
is_entry a b = is_interval a.0 b.0 && nat_eq a.1.0 b.1.0

-- what is left where the entry was found, and where it was not there
abbrev pub IsTaken : Bool → Interval × FileId → List (Interval × FileId)
    → List (Interval × FileId) → Type 0
IsTaken true entry before after = SameCounts before (entry ∷ after)
IsTaken false entry before after =
    SameCounts before after × (times (λ e. is_entry e entry) before ≡ 0)
