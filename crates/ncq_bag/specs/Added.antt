-- Lists of what was added to a bag. Only the crate's private clauses cite it.
use Rattle.std.specs.Prelude.{ℕ, ◌^◌, ℤ, pos, ◌+ℤ◌, ◌≤◌, List, [], ◌∷◌, if◌then◌else◌}
use Rattle.std.specs.List.{sum_by}
use Rattle.std.specs.List.Sorted.{IsSortedByKey}
use Rattle.std.specs.Ordering.{nat_cmp}
use Rattle.std.specs.Cmp.Lexicographic.{slice_cmp}
use Rattle.std.specs.Str.{bytes_eq}
use Rattle.ncq_base.specs.Keys.{ByBytes}
use Rattle.ncq_bag.specs.Bags.{added, signed}
use Rattle.ncq_bag.specs.declared.bag.Difference.{Difference}

-- the counts after adds, one after the other
abbrev pub with_adds : ByBytes ℤ → List Difference → ByBytes ℤ
with_adds counts [] = counts
with_adds counts (d ∷ adds) = with_adds (added counts d.bytes d.count d.gain) adds

-- adds behind a key and its count, those of one byte string that stand together made one
abbrev pub runs : List ℕ → ℤ → List Difference → List (List ℕ × ℤ)
runs key count [] = (key, count) ∷ []
runs key count (d ∷ adds) = if bytes_eq d.bytes key
    then runs key (count +ℤ signed d.gain d.count) adds
    else (key, count) ∷ runs d.bytes (pos 0 +ℤ signed d.gain d.count) adds

-- how many were added is at most n, which is at most 2^63
abbrev pub IsWithin : List Difference → ℕ → Type 0
IsWithin adds n = (sum_by (λ d. d.count) adds ≤ n) × (n ≤ 2 ^ 63)

-- the byte strings do not fall
abbrev pub IsRising : List Difference → Type 0
IsRising adds = IsSortedByKey (λ d. d.bytes) (slice_cmp nat_cmp) adds
