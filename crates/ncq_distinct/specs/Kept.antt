-- What a table keeps: counts, and changes of them that wait, by install number. Only the crate's
-- private clauses cite it.
use Rattle.std.specs.Prelude.{◌≡◌, ℕ, ◌≤◌, List, [], Option, Some, None, length, map, nat_eq}
use Rattle.std.specs.Prelude.{IfSome}
use Rattle.std.specs.FinMap.{empty, from_entries}
use Rattle.std.specs.Map.{lookup}
use Rattle.std.specs.Option.{unwrap_or}
use Rattle.ncq_base.specs.Keys.{ByBytes}
use Rattle.ncq_bag.specs.CountStates.{CountState}
use Rattle.ncq_bag.specs.Counts.{IsChange}
use Rattle.ncq_bag.specs.declared.bag.Difference.{Difference}
use Rattle.ncq_distinct.specs.DistinctTables.{DistinctTable, Tallied}

-- counts by install number
abbrev pub CountsKept : Type 0
CountsKept = List (ℕ × CountState)

-- changes that wait, by install number
abbrev pub ChangesKept : Type 0
ChangesKept = List (ℕ × List Difference)

-- the counts of the subscription, if there are any
abbrev pub state_at : CountsKept → ℕ → Option CountState
state_at counts install = lookup (nat_eq install) counts

-- the changes that wait for the subscription, if there are any
abbrev pub changes_at : ChangesKept → ℕ → Option (List Difference)
changes_at waiting install = lookup (nat_eq install) waiting

-- the counts, none where they are not there
abbrev pub counts_of : Option CountState → ByBytes ℕ
counts_of None = empty
counts_of (Some state) = state.counts

-- the changes, none where they are not there
abbrev pub changes_of : Option (List Difference) → List Difference
changes_of changes = unwrap_or changes []

-- the counts of a subscription, with the changes that wait for it
abbrev pub tally_of : ChangesKept → ℕ × CountState → ℕ × Tallied
tally_of waiting (install, state) =
    (install, record { counts = state; waiting = changes_at waiting install })

-- the table of these counts and of these changes that wait
abbrev pub table_of : CountsKept → ChangesKept → DistinctTable
table_of counts waiting = from_entries (map (tally_of waiting) counts)

-- there are counts, of which the changes can be made, with room for them
abbrev pub HasRoom : Option CountState → List Difference → Type 0
HasRoom None changes = ⊥
HasRoom (Some state) changes = IsChange state.counts changes × (length changes ≤ state.spare)

-- the changes that wait can be made of the counts of their subscriptions, with room for them
abbrev pub CanWait : CountsKept → ChangesKept → Type 0
CanWait counts waiting = (any : ℕ) → IfSome (changes_at waiting any) (HasRoom (state_at counts any))

-- the counts are as they were, with no less room; where there were none, no byte string stands
abbrev pub IsKept : Option CountState → Option CountState → Type 0
IsKept None None = Unit {0}
IsKept None (Some new) = new.counts ≡ empty
IsKept (Some old) None = ⊥
IsKept (Some old) (Some new) = (new.counts ≡ old.counts) × (old.spare ≤ new.spare)

-- so are those of every subscription
abbrev pub AreKept : CountsKept → CountsKept → Type 0
AreKept old new = (any : ℕ) → IsKept (state_at old any) (state_at new any)
