-- The counts of subscriptions, and the changes of them that wait.
use Rattle.std.specs.Prelude.{◌≡◌, ◌==◌, ℕ, if◌then◌else◌, List, [], map, Option, Some, None, refl}
use Rattle.std.specs.Ordering.{nat_cmp}
use Rattle.std.specs.FinMap.{FinMap, code, get, empty}
use Rattle.std.specs.Coded.{Coded, code_by, coded×, coded_ℕ, coded_list, coded_option}
use Rattle.std.specs.Cmp.Lexicographic.{slice_cmp}
use Rattle.std.specs.List.Sorted.{IsStrictlySortedBy}
use Rattle.std.specs.Option.{unwrap_or}
use Rattle.ncq_base.specs.Keys.{ByBytes}
use Rattle.ncq_bag.specs.CountStates.{CountState, count_code}
use Rattle.ncq_bag.specs.contracts.bag.Difference.{the_row as difference_row}
use Rattle.ncq_bag.specs.declared.bag.Difference.{Difference}

-- the counts of a subscription, and the changes of them that wait, if there are any
pub record Tallied : Type 0 where
  pub counts : CountState
  pub waiting : Option (List Difference)

-- how they are written as a value
abbrev pub tallied_code : Coded Tallied
tallied_code =
    code_by (CountState × Option (List Difference))
    (coded× count_code (coded_option (coded_list difference_row.coded)))
    (λ t. (t.counts, t.waiting)) (λ p. record { counts = p.0; waiting = p.1 }) (λ _. refl)

-- the counts of subscriptions by their install numbers
abbrev pub DistinctTable : Type 0
DistinctTable = FinMap nat_cmp Tallied

-- how they are written as a value
abbrev pub distinct_code : Coded DistinctTable
distinct_code = code coded_ℕ tallied_code

-- the counts, none where there are none yet
abbrev pub counts_in : Option Tallied → ByBytes ℕ
counts_in None = empty
counts_in (Some tallied) = tallied.counts.counts

-- the changes that wait, none where none do
abbrev pub waiting_in : Option Tallied → List Difference
waiting_in None = []
waiting_in (Some tallied) = unwrap_or tallied.waiting []

-- the counts of the subscription of an install number: none where it is not there
abbrev pub counts_at : DistinctTable → ℕ → ByBytes ℕ
counts_at table install = counts_in (get table install)

-- the changes of its counts that wait
abbrev pub waiting_at : DistinctTable → ℕ → List Difference
waiting_at table install = waiting_in (get table install)

-- the byte strings of the changes rise
abbrev pub AreRising : List Difference → Type 0
AreRising changes = IsStrictlySortedBy (slice_cmp nat_cmp) (map (λ d. d.bytes) changes)

-- both have the same counts of every subscription
abbrev pub HaveSameCounts : DistinctTable → DistinctTable → Type 0
HaveSameCounts old new = (any : ℕ) → counts_at new any ≡ counts_at old any

-- the same changes wait in both, but for the subscription of this install number, for which these
-- wait
abbrev pub AwaitsAt : ℕ → List Difference → DistinctTable → DistinctTable → Type 0
AwaitsAt install changes old new =
    (any : ℕ) → waiting_at new any ≡ (if any == install then changes else waiting_at old any)

-- no change waits
abbrev pub IsSettled : DistinctTable → Type 0
IsSettled table = (any : ℕ) → waiting_at table any ≡ []
