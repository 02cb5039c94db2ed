-- How often byte strings stand, and what leaves 0 or reaches it when that changes.
use Rattle.std.specs.Prelude.{◌≡◌, ℕ, zero, suc, ◌+◌, ◌-◌, ◌≤◌, ◌<◌, ◌^◌, Bool, true, false, not, ◌≢◌, Some}
use Rattle.std.specs.Prelude.{List, [], ◌∷◌, length, map}
use Rattle.std.specs.Option.{unwrap_or}
use Rattle.std.specs.List.{filter, flat_map, AllByRecursion}
use Rattle.std.specs.List.Sorted.{IsStrictlySortedBy}
use Rattle.std.specs.Ordering.{nat_cmp}
use Rattle.std.specs.Cmp.Lexicographic.{slice_cmp}
use Rattle.std.specs.FinMap.{get, insert, remove}
use Rattle.std.specs.Str.{bytes_eq}
use Rattle.ncq_base.specs.Keys.{ByBytes}
use Rattle.ncq_bag.specs.Bags.{count_in, difference}
use Rattle.ncq_bag.specs.declared.bag.Difference.{Difference}

-- how often the byte string stands
abbrev pub stands : ByBytes ℕ → List ℕ → ℕ
stands counts key = unwrap_or (get counts key) 0

-- no byte string is kept with a count of 0
abbrev pub AllPositive : ByBytes ℕ → Type 0
AllPositive counts = (key : List ℕ) → get counts key ≢ Some 0

-- so many more, or so many less
abbrev pub changed : ℕ → Bool → ℕ → ℕ
changed n true times = n + times
changed n false times = n - times

-- no more is taken away than stands, and what stands then is a number of 64 bits
abbrev pub CanChange : ℕ → Bool → ℕ → Type 0
CanChange n true times = n + times < 2 ^ 64
CanChange n false times = times ≤ n

-- the counts with this one at the key; a count of 0 is not kept
abbrev pub with_count : ByBytes ℕ → List ℕ → ℕ → ByBytes ℕ
with_count counts key zero = remove counts key
with_count counts key (suc n) = insert counts key (suc n)

-- the counts after one change
abbrev pub after_one : ByBytes ℕ → Difference → ByBytes ℕ
after_one counts d = with_count counts d.bytes (changed (stands counts d.bytes) d.gain d.count)

-- the counts after changes, one after the other
abbrev pub after : ByBytes ℕ → List Difference → ByBytes ℕ
after counts [] = counts
after counts (d ∷ changes) = after (after_one counts d) changes

-- the change of one count can be made
abbrev pub Fits : ByBytes ℕ → Difference → Type 0
Fits counts d = CanChange (stands counts d.bytes) d.gain d.count

-- changes that can be made: their byte strings rise, and each can be made
pub record IsChange (counts : ByBytes ℕ) (changes : List Difference) : Type 0 where
  pub rising : IsStrictlySortedBy (slice_cmp nat_cmp) (map (λ d. d.bytes) changes)
  pub fits : AllByRecursion (Fits counts) changes

-- a byte string whose count leaves 0 is there once more, one whose count reaches 0 once less
abbrev pub turn : List ℕ → ℕ → ℕ → List Difference
turn key zero zero = []
turn key zero (suc m) = record { gain = true; count = 1; bytes = key } ∷ []
turn key (suc n) zero = record { gain = false; count = 1; bytes = key } ∷ []
turn key (suc n) (suc m) = []

-- what a change of one count makes leave 0, or reach it
abbrev pub turn_of : ByBytes ℕ → Difference → List Difference
turn_of counts d =
    turn d.bytes (stands counts d.bytes) (changed (stands counts d.bytes) d.gain d.count)

-- what changes make leave 0, or reach it
abbrev pub turns : ByBytes ℕ → List Difference → List Difference
turns counts changes = flat_map (turn_of counts) changes

-- the counts say how often each byte string stands in the list
abbrev pub AreCountsOf : ByBytes ℕ → List (List ℕ) → Type 0
AreCountsOf counts strings = (key : List ℕ) → stands counts key ≡ count_in key strings

-- each item of the list once, where a test says which are one
abbrev pub each_once_by : {A : Type 0} → (A → A → Bool) → List A → List A
each_once_by same [] = []
each_once_by same (x ∷ xs) = x ∷ filter (λ y. not (same x y)) (each_once_by same xs)

-- each byte string of the list once
abbrev pub each_once : List (List ℕ) → List (List ℕ)
each_once strings = each_once_by bytes_eq strings

-- what the difference of two lists does to the counts of the one before: it can be made, where no
-- byte string stands too often for 64 bits now; what it makes leave 0 or reach it is the difference
-- of the two with each byte string once; and after it the counts are those of the one now
pub record TellsDistinct (counts : ByBytes ℕ) (now before : List (List ℕ)) : Type 0 where
  pub change : length now < 2 ^ 64 → IsChange counts (difference now before)
  pub turns : turns counts (difference now before) ≡ difference (each_once now) (each_once before)
  pub after : AreCountsOf (after counts (difference now before)) now
