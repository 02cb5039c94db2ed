-- Bags of byte strings, the counts that changes leave, and the difference of two bags.
use Rattle.std.specs.Prelude.{◌≡◌, ℕ, zero, suc, ℤ, pos, negsuc, neg_ℤ, ◌+ℤ◌, ◌-ℤ◌, Bool, true}
use Rattle.std.specs.Prelude.{false, if◌then◌else◌, List, [], ◌∷◌, ◌++◌, map}
use Rattle.std.specs.Option.{unwrap_or}
use Rattle.std.specs.List.{flat_map}
use Rattle.std.specs.FinMap.{get, insert, empty, entries}
use Rattle.std.specs.Str.{bytes_eq}
use Rattle.ncq_base.specs.Keys.{ByBytes, map_of, times}
use Rattle.ncq_bag.specs.Counted.{Counted}
use Rattle.ncq_bag.specs.declared.bag.Difference.{Difference}

-- the count of a key, 0 for one that was never added
abbrev pub count_of : ByBytes ℤ → List ℕ → ℤ
count_of counts key = unwrap_or (get counts key) (pos 0)

-- so many more, or so many less
abbrev pub signed : Bool → ℕ → ℤ
signed gain n = if gain then pos n else neg_ℤ (pos n)

-- so many more of the key, or so many less
abbrev pub added : ByBytes ℤ → List ℕ → ℕ → Bool → ByBytes ℤ
added counts key times gain = insert counts key (count_of counts key +ℤ signed gain times)

-- no byte string was added
abbrev pub no_counts : Counted
no_counts = record { counts = empty; adds = 0 }

-- what a count that is not 0 adds to the list of differences
abbrev pub difference_of : List ℕ × ℤ → List Difference
difference_of (key, pos zero) = []
difference_of (key, pos (suc n)) = record { gain = true; count = suc n; bytes = key } ∷ []
difference_of (key, negsuc n) = record { gain = false; count = suc n; bytes = key } ∷ []

-- the keys whose count is not 0, rising, each with its count's size and sign
abbrev pub differences : ByBytes ℤ → List Difference
differences counts = flat_map difference_of (entries counts)

-- how often the byte string stands in the list
abbrev pub count_in : List ℕ → List (List ℕ) → ℕ
count_in key strings = times (bytes_eq key) strings

-- how much more often it stands in the one list than in the other
abbrev pub surplus : List (List ℕ) → List (List ℕ) → List ℕ → ℤ
surplus now before key = pos (count_in key now) -ℤ pos (count_in key before)

-- the finite map from each byte string that stands in either list to its surplus
abbrev pub tally : List (List ℕ) → List (List ℕ) → ByBytes ℤ
tally now before = map_of (map (λ string. (string, surplus now before string)) (now ++ before))

-- the difference of two bags: each byte string that stands more often in one than in the other, in
-- rising order, and by how much
unfoldable pub difference : List (List ℕ) → List (List ℕ) → List Difference
difference now before = differences (tally now before)

-- counts that say how much more often each byte string stands in the one list than in the other
abbrev pub IsTally : ByBytes ℤ → List (List ℕ) → List (List ℕ) → Type 0
IsTally counts now before = (key : List ℕ) → count_of counts key ≡ surplus now before key
