-- The counts after adds do not depend on their order, and where the byte strings rise, those of one stand together.
use Rattle.std.proofs.Common.{◌≡◌, ◌≤◌, ◌<◌, ◌^◌, ℕ, zero, suc, ◌+◌, ◌-◌, Bool, true, false, cond, ◌&&◌, List, [], ◌∷◌, ◌++◌, length, refl, sym, ◌∙◌, ap, subst, arith, true≢false, nat_abs, SFits, to_z, of_z}
use Rattle.std.proofs.Math.IntN.{+ℤ_assoc}
use Rattle.std.proofs.lemmas.Int.{ints, to_z-of_z}
use Rattle.std.specs.Prelude.{ℤ, pos, negsuc, ◌+ℤ◌, ◌-ℤ◌, if◌then◌else◌, Option, Some, None, slice_index_or}
use Rattle.std.specs.Int.{w128}
use Rattle.std.specs.Option.{unwrap_or}
use Rattle.std.specs.List.{flat_map, sum_by}
use Rattle.std.specs.List.Sorted.{IsPermutation}
use Rattle.std.specs.Ordering.{nat_cmp, is_lt, is_eq, ordering_reverse}
use Rattle.std.specs.declared.cmp.Ordering.{Ordering}
use Rattle.std.specs.declared.cmp.Ordering.TheVariants.{Less, Equal, Greater}
use Rattle.std.specs.Cmp.Lexicographic.{slice_cmp, texts_ties, nat_list_cmp_total}
use Rattle.std.specs.FinMap.{find, empty, get-empty, entries, from_sorted, is_sorted, entries-from_sorted, get-from_sorted}
use Rattle.std.specs.FinMap.Entries.{below_all}
use Rattle.std.specs.Str.{bytes_eq}
use Rattle.std.proofs.lemmas.List.Sums.{sum_by-cons}
use Rattle.std.proofs.lemmas.List.Sorted.{sum_by-IsPermutation}
use Rattle.ncq_base.specs.Keys.{ByBytes}
use Rattle.ncq_base.proofs.Keyed.{bytes_apart}
use Rattle.ncq_base.proofs.Totals.{is_equal, no_tie, untold}
use Rattle.ncq_bag.specs.Added.{IsRising, runs, with_adds}
use Rattle.ncq_bag.specs.Bags.{added, count_of, difference_of, differences, signed}
use Rattle.ncq_bag.specs.declared.bag.Difference.{Difference}
use Rattle.ncq_bag.proofs.CallerLemmas.{count_of-added}
use Rattle.ncq_bag.proofs.Tallies.{differences_alike}

abbrev R : List ℕ → List ℕ → Ordering
R = slice_cmp nat_cmp

-- a count of a bag fits 128 bits
pub fits : (z : ℤ) → nat_abs z ≤ 2 ^ 63 → to_z w128 (of_z w128 z) ≡ z
fits z h = to_z-of_z w128 z (within z h)
  where
    within : (z : ℤ) → nat_abs z ≤ 2 ^ 63 → SFits w128 z
    within (pos n) h = omega arith
    within (negsuc n) h = omega arith

-- how many come by an add of the key, and how many go
abbrev gains_at : List ℕ → Difference → ℕ
gains_at q d = cond (bytes_eq q d.bytes) (cond d.gain d.count 0) 0

abbrev losses_at : List ℕ → Difference → ℕ
losses_at q d = cond (bytes_eq q d.bytes) (cond d.gain 0 d.count) 0

-- what adds do to the count of a key
abbrev moved : List ℕ → List Difference → ℤ
moved q adds = pos (sum_by (gains_at q) adds) -ℤ pos (sum_by (losses_at q) adds)

one_moves : (b gain : Bool) (n g l : ℕ) → pos (cond b (cond gain n 0) 0 + g) -ℤ pos (cond b (cond gain 0 n) 0 + l) ≡ cond b (signed gain n) (pos 0) +ℤ (pos g -ℤ pos l)
one_moves true true n g l = omega (arith, ints)
one_moves true false n g l = omega (arith, ints)
one_moves false gain n g l = omega (arith, ints)

moved-cons : (q : List ℕ) (d : Difference) (ds : List Difference) → moved q (d ∷ ds) ≡ cond (bytes_eq q d.bytes) (signed d.gain d.count) (pos 0) +ℤ moved q ds
moved-cons q d ds =
    (λ i. pos (sum_by-cons (gains_at q) d ds i) -ℤ pos (sum_by-cons (losses_at q) d ds i))
    ∙ one_moves (bytes_eq q d.bytes) d.gain d.count (sum_by (gains_at q) ds) (sum_by (losses_at q) ds)

one_more : (b : Bool) (z s m : ℤ) → (if b then z +ℤ s else z) +ℤ m ≡ z +ℤ (cond b s (pos 0) +ℤ m)
one_more true z s m = +ℤ_assoc z s m
one_more false z s m = omega (arith, ints)

count_of-with_adds : (q : List ℕ) (adds : List Difference) (counts : ByBytes ℤ) → count_of (with_adds counts adds) q ≡ count_of counts q +ℤ moved q adds
count_of-with_adds q [] counts = omega (arith, ints)
count_of-with_adds q (d ∷ ds) counts =
    count_of-with_adds q ds (added counts d.bytes d.count d.gain)
    ∙ ap (λ (z : ℤ). z +ℤ moved q ds) (count_of-added counts d.bytes q d.count d.gain)
    ∙ one_more (bytes_eq q d.bytes) (count_of counts q) (signed d.gain d.count) (moved q ds)
    ∙ ap (λ (z : ℤ). count_of counts q +ℤ z) (sym (moved-cons q d ds))

-- one more add
pub with_adds-push : (adds : List Difference) (counts : ByBytes ℤ) (d : Difference) → with_adds counts (adds ++ d ∷ []) ≡ added (with_adds counts adds) d.bytes d.count d.gain
with_adds-push [] counts d = refl
with_adds-push (a ∷ adds) counts d = with_adds-push adds (added counts a.bytes a.count a.gain) d

-- adds in another order leave the same differences
pub differences-IsPermutation : (xs ys : List Difference) → IsPermutation xs ys → differences (with_adds empty ys) ≡ differences (with_adds empty xs)
differences-IsPermutation xs ys moves = differences_alike (with_adds empty ys) (with_adds empty xs) (λ q.
    count_of-with_adds q ys empty
    ∙ (λ i. count_of empty q +ℤ (pos (sum_by-IsPermutation (gains_at q) xs ys moves i) -ℤ pos (sum_by-IsPermutation (losses_at q) xs ys moves i)))
    ∙ sym (count_of-with_adds q xs empty))

-- no byte string is below the one before it, nor the first below the key
abbrev Climbs : List ℕ → List Difference → Type 0
Climbs key [] = Unit {0}
Climbs key (d ∷ ds) = (is_lt (R d.bytes key) ≡ false) × Climbs d.bytes ds

is_less : (r : Ordering) → is_lt r ≡ true → r ≡ Less
is_less Less h = refl
is_less Equal h = cc
is_less Greater h = cc

-- what is below a key is below what does not come before the key
lower : (k key y : List ℕ) → R k key ≡ Less → is_lt (R y key) ≡ false → R k y ≡ Less
lower k key y below after =
    elim (R y key) as (λ r. R y key ≡ r → is_lt r ≡ false → R k y ≡ Less) [
      | Less ↦ λ p h. absurd (true≢false h)
      | Equal ↦ λ p h. subst (λ (x : List ℕ). R k x ≡ Less) (sym (bytes_apart y key p)) below
      | Greater ↦ λ p h. nat_list_cmp_total.trans k key y below (nat_list_cmp_total.antisymm key y ∙ ap ordering_reverse p)
    ] refl after

-- what does not come before a key, and is another, comes after it
behind : (key y : List ℕ) → is_lt (R y key) ≡ false → bytes_eq y key ≡ false → R key y ≡ Less
behind key y after other =
    elim (R y key) as (λ r. R y key ≡ r → is_lt r ≡ false → is_eq r ≡ false → R key y ≡ Less) [
      | Less ↦ λ p h n. absurd (true≢false h)
      | Equal ↦ λ p h n. absurd (true≢false n)
      | Greater ↦ λ p h n. nat_list_cmp_total.antisymm key y ∙ ap ordering_reverse p
    ] refl after (sym (texts_ties y key) ∙ other)

same_bytes : (y key : List ℕ) → bytes_eq y key ≡ true → y ≡ key
same_bytes y key t = bytes_apart y key (is_equal (R y key) (sym (texts_ties y key) ∙ t))

runs_above : (k key : List ℕ) (sum : ℤ) (ds : List Difference) → R k key ≡ Less → Climbs key ds → below_all R k (runs key sum ds) ≡ true
runs_above k key sum [] below up = λ i. is_lt (below i) && true
runs_above k key sum (d ∷ ds) below up =
    elim (bytes_eq d.bytes key) as (λ t. bytes_eq d.bytes key ≡ t → below_all R k (cond t (runs key (sum +ℤ signed d.gain d.count) ds) ((key, sum) ∷ runs d.bytes (pos 0 +ℤ signed d.gain d.count) ds)) ≡ true) [
      | true ↦ λ t. runs_above k key (sum +ℤ signed d.gain d.count) ds below (subst (λ (x : List ℕ). Climbs x ds) (same_bytes d.bytes key t) up.1)
      | false ↦ λ t. λ i. is_lt (below i) && runs_above k d.bytes (pos 0 +ℤ signed d.gain d.count) ds (lower k key d.bytes below up.0) up.1 i
    ] refl

runs_sorted : (key : List ℕ) (sum : ℤ) (ds : List Difference) → Climbs key ds → is_sorted R (runs key sum ds) ≡ true
runs_sorted key sum [] up = refl
runs_sorted key sum (d ∷ ds) up =
    elim (bytes_eq d.bytes key) as (λ t. bytes_eq d.bytes key ≡ t → is_sorted R (cond t (runs key (sum +ℤ signed d.gain d.count) ds) ((key, sum) ∷ runs d.bytes (pos 0 +ℤ signed d.gain d.count) ds)) ≡ true) [
      | true ↦ λ t. runs_sorted key (sum +ℤ signed d.gain d.count) ds (subst (λ (x : List ℕ). Climbs x ds) (same_bytes d.bytes key t) up.1)
      | false ↦ λ t. λ i. runs_above key d.bytes (pos 0 +ℤ signed d.gain d.count) ds (behind key d.bytes up.0 t) up.1 i && runs_sorted d.bytes (pos 0 +ℤ signed d.gain d.count) ds up.1 i
    ] refl

-- the sum that stands beside a key, 0 where the key is not there
abbrev found : List ℕ → List (List ℕ × ℤ) → ℤ
found q es = unwrap_or (find R q es) (pos 0)

found_one : (t : Bool) (sum : ℤ) → unwrap_or (cond t (Some sum) None) (pos 0) ≡ cond t sum (pos 0) +ℤ (pos 0 -ℤ pos 0)
found_one true sum = omega (arith, ints)
found_one false sum = omega (arith, ints)

goes_on : (b : Bool) (sum s m : ℤ) → cond b (sum +ℤ s) (pos 0) +ℤ m ≡ cond b sum (pos 0) +ℤ (cond b s (pos 0) +ℤ m)
goes_on true sum s m = +ℤ_assoc sum s m
goes_on false sum s m = omega (arith, ints)

begins : (b : Bool) (s m : ℤ) → cond b (pos 0 +ℤ s) (pos 0) +ℤ m ≡ cond b s (pos 0) +ℤ m
begins true s m = omega (arith, ints)
begins false s m = omega (arith, ints)

found_first : (t : Bool) (q : List ℕ) (sum m : ℤ) (es : List (List ℕ × ℤ)) → found q es ≡ m → (t ≡ true → found q es ≡ pos 0)
    → unwrap_or (cond t (Some sum) (find R q es)) (pos 0) ≡ cond t sum (pos 0) +ℤ m
found_first true q sum m es is none = let z = none refl in omega (arith, ints)
found_first false q sum m es is none = omega (arith, ints)

-- those of one key together are what adds do to its count
found_runs : (q key : List ℕ) (sum : ℤ) (ds : List Difference) → Climbs key ds → found q (runs key sum ds) ≡ cond (bytes_eq q key) sum (pos 0) +ℤ moved q ds
found_runs q key sum [] up = ap (λ (t : Bool). unwrap_or (cond t (Some sum) None) (pos 0)) (sym (texts_ties q key)) ∙ found_one (bytes_eq q key) sum
found_runs q key sum (d ∷ ds) up =
    elim (bytes_eq d.bytes key) as (λ t. bytes_eq d.bytes key ≡ t → found q (cond t (runs key (sum +ℤ signed d.gain d.count) ds) ((key, sum) ∷ runs d.bytes (pos 0 +ℤ signed d.gain d.count) ds)) ≡ cond (bytes_eq q key) sum (pos 0) +ℤ moved q (d ∷ ds)) [
      | true ↦ λ t.
          let same = same_bytes d.bytes key t in
          found_runs q key (sum +ℤ signed d.gain d.count) ds (subst (λ (x : List ℕ). Climbs x ds) same up.1)
          ∙ goes_on (bytes_eq q key) sum (signed d.gain d.count) (moved q ds)
          ∙ ap (λ (x : List ℕ). cond (bytes_eq q key) sum (pos 0) +ℤ (cond (bytes_eq q x) (signed d.gain d.count) (pos 0) +ℤ moved q ds)) (sym same)
          ∙ ap (λ (z : ℤ). cond (bytes_eq q key) sum (pos 0) +ℤ z) (sym (moved-cons q d ds))
      | false ↦ λ t.
          let rest = runs d.bytes (pos 0 +ℤ signed d.gain d.count) ds in
          let above : below_all R key rest ≡ true = runs_above key d.bytes (pos 0 +ℤ signed d.gain d.count) ds (behind key d.bytes up.0 t) up.1 in
          let is : found q rest ≡ moved q (d ∷ ds) =
          found_runs q d.bytes (pos 0 +ℤ signed d.gain d.count) ds up.1
          ∙ begins (bytes_eq q d.bytes) (signed d.gain d.count) (moved q ds) ∙ sym (moved-cons q d ds) in
          ap (λ (t : Bool). unwrap_or (cond t (Some sum) (find R q rest)) (pos 0)) (sym (texts_ties q key))
          ∙ found_first (bytes_eq q key) q sum (moved q (d ∷ ds)) rest is
          (λ t. ap (λ (o : Option ℤ). unwrap_or o (pos 0)) (no_tie q rest (subst (λ (x : List ℕ). below_all R x rest ≡ true) (sym (same_bytes q key t)) above)))
    ] refl

none_below_nothing : (y : List ℕ) → is_lt (R y []) ≡ false
none_below_nothing [] = refl
none_below_nothing (x ∷ y) = refl

climbs_on : (d : Difference) (ds : List Difference) → IsRising (d ∷ ds) → Climbs d.bytes ds
climbs_on d [] up = tt
climbs_on d (e ∷ ds) up = (
  up 0 d (omega arith) (omega arith),
  climbs_on e ds (λ k x low high.
      let next : suc k + 1 ≡ suc (k + 1) = omega arith in
      subst (λ (n : ℕ). is_lt (R (slice_index_or (d ∷ e ∷ ds) n x).bytes (slice_index_or (e ∷ ds) k x).bytes) ≡ false) next (up (suc k) x (omega arith) (omega arith))),
)

climbs : (ds : List Difference) → IsRising ds → Climbs [] ds
climbs [] up = tt
climbs (d ∷ ds) up = (none_below_nothing d.bytes, climbs_on d ds up)

-- those of one byte string together give the differences
pub differences-runs : (ds : List Difference) → IsRising ds → flat_map difference_of (runs [] (pos 0) ds) ≡ differences (with_adds empty ds)
differences-runs ds rising =
    let up = climbs ds rising in
    let sorted = untold _ (runs_sorted [] (pos 0) ds up) in
    let sums : ByBytes ℤ = from_sorted (runs [] (pos 0) ds) in
    ap (flat_map difference_of) (sym (entries-from_sorted R (runs [] (pos 0) ds) sorted))
    ∙ differences_alike sums (with_adds empty ds) (λ q.
    ap (λ (o : Option ℤ). unwrap_or o (pos 0)) (get-from_sorted R (runs [] (pos 0) ds) q sorted)
    ∙ found_runs q [] (pos 0) ds up
    ∙ same_start (bytes_eq q []) (count_of empty q) (moved q ds) (ap (λ (o : Option ℤ). unwrap_or o (pos 0)) (get-empty R q))
    ∙ sym (count_of-with_adds q ds empty))
  where
    same_start : (t : Bool) (z m : ℤ) → z ≡ pos 0 → cond t (pos 0) (pos 0) +ℤ m ≡ z +ℤ m
    same_start true z m is = omega (arith, ints)
    same_start false z m is = omega (arith, ints)
