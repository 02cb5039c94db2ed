-- Files by rising number: the one list that rises and has the counts of the files.
use Rattle.std.proofs.Common.{◌≡◌, ℕ, suc, ◌+◌, ◌≤◌, Bool, true, false, cond, nat_le, nat_lt, List, [], ◌∷◌, refl, sym, ◌∙◌, ap, arith}
use Rattle.std.specs.List.{AllByRecursion}
use Rattle.std.specs.List.Sorted.{IsNonDecreasingBy}
use Rattle.std.proofs.lemmas.Bool.{leb-true, leb-false, ltb-false, le-ltb}
use Rattle.std.proofs.lemmas.List.Elements.{recursion_from_All}
use Rattle.ncq_base.specs.Counts.{total_by, SameCounts}
use Rattle.ncq_base.specs.declared.atom.FileId.{FileId}
use Rattle.ncq_split.specs.Splits.{put_by_number, by_number}

-- no file of the list has a lower number
abbrev IsLeast : FileId → List FileId → Type 0
IsLeast file files = AllByRecursion (λ (other : FileId). file.0 ≤ other.0) files

abbrev Rises : List FileId → Type 0
Rises [] = Unit {0}
Rises (file ∷ files) = IsLeast file files × Rises files

rises_from : (files : List FileId) → IsNonDecreasingBy (λ f. f.0) files → Rises files
rises_from [] h = tt
rises_from (file ∷ files) h = (
  recursion_from_All (λ (other : FileId). file.0 ≤ other.0) files (λ j d below. h 0 (suc j) d (omega arith) (omega arith)),
  rises_from files (λ i j d up below. h (suc i) (suc j) d (omega arith) (omega arith)),
)

-- the file is put where it rises

least_put : (least file : FileId) (files : List FileId) → least.0 ≤ file.0 → IsLeast least files → IsLeast least (put_by_number file files)
least_put least file [] h all = (h, tt)
least_put least file (other ∷ files) h all =
    elim (nat_le file.0 other.0) as (λ b. IsLeast least (cond b (file ∷ other ∷ files) (other ∷ put_by_number file files))) [
      | true ↦ (h, all)
      | false ↦ (all.0, least_put least file files h all.1)
    ]

least_lower : (low high : FileId) (files : List FileId) → low.0 ≤ high.0 → IsLeast high files → IsLeast low files
least_lower low high [] h all = tt
least_lower low high (file ∷ files) h all = let first = all.0 in (omega arith, least_lower low high files h all.1)

put_rises : (file : FileId) (files : List FileId) → Rises files → Rises (put_by_number file files)
put_rises file [] r = (tt, tt)
put_rises file (other ∷ files) r =
    elim (nat_le file.0 other.0) as (λ b. nat_le file.0 other.0 ≡ b → Rises (cond b (file ∷ other ∷ files) (other ∷ put_by_number file files))) [
      | true ↦ λ e. let up = leb-true file.0 other.0 e in ((up, least_lower file other files up r.0), r)
      | false ↦ λ e. let down = leb-false file.0 other.0 e in (least_put other file files (omega arith) r.0, put_rises file files r.1)
    ] refl

by_number_rises : (files : List FileId) → Rises (by_number files)
by_number_rises [] = tt
by_number_rises (file ∷ files) = put_rises file (by_number files) (by_number_rises files)

-- it is one more

put_counts : (file : FileId) (files : List FileId) → SameCounts (put_by_number file files) (file ∷ files)
put_counts file [] f = refl
put_counts file (other ∷ files) f =
    elim (nat_le file.0 other.0) as (λ b. total_by f (cond b (file ∷ other ∷ files) (other ∷ put_by_number file files)) ≡ total_by f (file ∷ other ∷ files)) [
      | true ↦ refl
      | false ↦ let rest = put_counts file files f in omega arith
    ]

-- by number the files have the same counts
pub by_number_counts : (files : List FileId) → SameCounts (by_number files) files
by_number_counts [] f = refl
by_number_counts (file ∷ files) f = put_counts file (by_number files) f ∙ ap (λ n. f file + n) (by_number_counts files f)

-- two lists that rise and have the same counts are one

abbrev one_if : Bool → ℕ
one_if b = cond b 1 0

-- 1 for a file below the number
abbrev below : ℕ → FileId → ℕ
below n file = one_if (nat_lt file.0 n)

none_below : (file : FileId) (n : ℕ) → n ≤ file.0 → below n file ≡ 0
none_below file n h = ap one_if (le-ltb file.0 n h)

not_below : (file : FileId) (n : ℕ) → below n file ≡ 0 → n ≤ file.0
not_below file n none = by (nat_lt file.0 n) refl none
  where
    by : (b : Bool) → nat_lt file.0 n ≡ b → one_if b ≡ 0 → n ≤ file.0
    by true e h = absurd (omega (arith, h))
    by false e h = ltb-false file.0 n e

least_below : (least : FileId) (files : List FileId) → IsLeast least files → total_by (below least.0) files ≡ 0
least_below least [] all = refl
least_below least (file ∷ files) all = λ i. none_below file least.0 all.0 i + least_below least files all.1 i

not_lower : (x y : FileId) (xs ys : List FileId) → IsLeast y ys → SameCounts (x ∷ xs) (y ∷ ys) → y.0 ≤ x.0
not_lower x y xs ys all counts =
    let none = none_below y y.0 (omega arith) in
    let rest = least_below y ys all in
    let same = counts (below y.0) in
    not_below x y.0 (omega arith)

pub file_is : (x y : FileId) → x.0 ≡ y.0 → x ≡ y
file_is x y e = λ i. record { 0 = e i }

rising_is : (xs ys : List FileId) → Rises xs → Rises ys → SameCounts xs ys → xs ≡ ys
rising_is [] [] r s counts = refl
rising_is [] (y ∷ ys) r s counts = let n = counts (λ _. 1) in absurd (omega arith)
rising_is (x ∷ xs) [] r s counts = let n = counts (λ _. 1) in absurd (omega arith)
rising_is (x ∷ xs) (y ∷ ys) r s counts =
    let up = not_lower x y xs ys s.0 counts in
    let down = not_lower y x ys xs r.0 (λ f. sym (counts f)) in
    let first : x ≡ y = file_is x y (omega arith) in
    let rest = rising_is xs ys r.1 s.1 (λ f. let all = counts f in let one = ap f first in omega arith) in
    λ i. first i ∷ rest i

-- a list that rises and has the counts of the files is that of the files by number
pub by_number_is : (found files : List FileId) → SameCounts found files → IsNonDecreasingBy (λ f. f.0) found → found ≡ by_number files
by_number_is found files counts rising =
    rising_is found (by_number files) (rises_from found rising) (by_number_rises files) (λ f. counts f ∙ sym (by_number_counts files f))
