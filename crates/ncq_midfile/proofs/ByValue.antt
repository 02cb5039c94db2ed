-- The rows of an interval, found by their values.
use Rattle.std.proofs.Common.{◌≡◌, ℕ, suc, ◌+◌, ◌≤◌, Bool, true, false, cond, ◌&&◌, ◌||◌, List, [], ◌∷◌, ◌++◌, filter, nat_le, nat_lt, refl, sym, ◌∙◌, ap, subst, arith, true≢false}
use Rattle.std.specs.Prelude.{ℤ}
use Rattle.std.specs.Ordering.{int_cmp, int_eq, is_eq}
use Rattle.std.specs.declared.cmp.Ordering.TheVariants.{Less}
use Rattle.std.specs.List.{AllByRecursion, flat_map, list_any}
use Rattle.std.specs.List.Sorted.{IsNonDecreasingBy, IsStrictlySortedBy}
use Rattle.std.proofs.lemmas.Bool.{le-ltb, ltb-false}
use Rattle.std.proofs.lemmas.Bool.Decides.{Decides-int_eq}
use Rattle.std.proofs.lemmas.List.Elements.{recursion_from_All}
use Rattle.ncq_base.specs.Atoms.{same_atom}
use Rattle.ncq_base.specs.Counts.{total_by, SameCounts}
use Rattle.ncq_base.specs.Intervals.{in_interval}
use Rattle.ncq_base.specs.declared.atom.Atom.{Atom}
use Rattle.ncq_base.specs.declared.atom.Atom.TheVariants.{Num, Text}
use Rattle.ncq_base.specs.declared.interval.Interval.{Interval}
use Rattle.ncq_base.proofs.CountLaws.{total_by-add, total_by-congr, total_by-flat_map, total_by-zero}
use Rattle.ncq_row.specs.Values.{atom_at}
use Rattle.ncq_midfile.specs.Content.{AreRising}
use Rattle.ncq_midfile.specs.Matching.{is_wanted, places_where}
use Rattle.ncq_midfile.specs.Orders.{is_known, with_value, AreValued}
use Rattle.ncq_midfile.specs.Ranged.{is_early}
use Rattle.ncq_midfile.specs.declared.signed.SignedRow.{SignedRow}
use Rattle.ncq_midfile.proofs.SameAtoms.{same_decides}

-- a value that is known stands once among values that rise
none_later : (n : ℤ) (k : ℕ) (vs : List ℤ) → AllByRecursion (λ y. int_cmp n y ≡ Less) vs → total_by (λ v. cond (int_eq n v) k 0) vs ≡ 0
none_later n k [] all = refl
none_later n k (v ∷ vs) all = (λ i. cond (is_eq (all.0 i)) k 0 + total_by (λ v. cond (int_eq n v) k 0) vs) ∙ let rest = none_later n k vs all.1 in omega arith

known_once : (n : ℤ) (k : ℕ) (vs : List ℤ) → IsStrictlySortedBy int_cmp vs → list_any (int_eq n) vs ≡ true → total_by (λ v. cond (int_eq n v) k 0) vs ≡ k
unfolding IsStrictlySortedBy
known_once n k [] sorted known = absurd (true≢false (sym known))
known_once n k (v ∷ vs) sorted known =
    elim (int_eq n v) as (λ b. int_eq n v ≡ b → (b || list_any (int_eq n) vs) ≡ true → cond b k 0 + total_by (λ v. cond (int_eq n v) k 0) vs ≡ k) [
      | true ↦ λ e known.
          let same : n ≡ v = (Decides-int_eq n v).0 e in
          let rest = none_later n k vs (subst (λ x. AllByRecursion (λ y. int_cmp x y ≡ Less) vs) (sym same) sorted.0) in
          omega arith
      | false ↦ λ e known. let rest = known_once n k vs sorted.1 known in omega arith
    ] refl known

module _ (slot : ℕ) (interval : Interval) (n : ℕ) where
  -- what an atom weighs that is of the interval; a text weighs nothing
  abbrev own : Bool → ℕ → Atom → ℕ
  own b k atom = cond (b && in_interval interval atom) k 0

  one_value : (atom : Atom) (b : Bool) (k : ℕ) (vs : List ℤ) → IsStrictlySortedBy int_cmp vs → is_known atom vs ≡ true → total_by (λ v. cond (same_atom atom (Num v)) (own b k atom) 0) vs ≡ own b k atom
  one_value (Num m) b k vs sorted known = known_once m (own b k (Num m)) vs sorted known
  one_value (Text t) true k vs sorted known = total_by-zero vs
  one_value (Text t) false k vs sorted known = total_by-zero vs

  moved : (a b : Bool) (x : ℕ) → cond (a && (b && (true && true))) x 0 ≡ cond (b && a) x 0
  moved true true x = refl
  moved true false x = refl
  moved false true x = refl
  moved false false x = refl

  nothing : (a b : Bool) (x : ℕ) → cond (a && (b && (false && true))) x 0 ≡ 0
  nothing true true x = refl
  nothing true false x = refl
  nothing false b x = refl

  own_weight : (r : SignedRow) (x : ℕ) (v : ℤ) → cond (in_interval interval (Num v) && is_wanted (slot ∷ []) (Num v ∷ []) n r) x 0
      ≡ cond (same_atom (atom_at r.row slot) (Num v)) (cond (is_early slot interval n r) x 0) 0
  own_weight r x v =
      elim (same_atom (atom_at r.row slot) (Num v)) as (λ b. same_atom (atom_at r.row slot) (Num v) ≡ b → cond (in_interval interval (Num v) && (nat_le r.number n && (b && true))) x 0 ≡ cond b (cond (is_early slot interval n r) x 0) 0) [
        | true ↦ λ e.
            let same : atom_at r.row slot ≡ Num v = (same_decides (atom_at r.row slot) (Num v)).0 e in
            moved (in_interval interval (Num v)) (nat_le r.number n) x ∙ (λ i. cond (nat_le r.number n && in_interval interval (sym same i)) x 0)
        | false ↦ λ e. nothing (in_interval interval (Num v)) (nat_le r.number n) x
      ] refl

  first_place : (g : ℕ → ℕ) (test : SignedRow → Bool) (a : ℕ) (r : SignedRow) (rows : List SignedRow) → total_by g (places_where test a (r ∷ rows)) ≡ cond (test r) (g a) 0 + total_by g (places_where test (a + 1) rows)
  first_place g test a r rows =
      elim (test r) as (λ b. total_by g (cond b (a ∷ places_where test (a + 1) rows) (places_where test (a + 1) rows)) ≡ cond b (g a) 0 + total_by g (places_where test (a + 1) rows)) [
        | true ↦ refl
        | false ↦ omega arith
      ]

  one_more : (g : ℕ → ℕ) (a : ℕ) (r : SignedRow) (rows : List SignedRow) (v : ℤ)
      → total_by g (with_value slot interval n a (r ∷ rows) v) ≡ cond (in_interval interval (Num v) && is_wanted (slot ∷ []) (Num v ∷ []) n r) (g a) 0 + total_by g (with_value slot interval n (a + 1) rows v)
  one_more g a r rows v =
      elim (in_interval interval (Num v)) as (λ b. total_by g (cond b (places_where (is_wanted (slot ∷ []) (Num v ∷ []) n) a (r ∷ rows)) [])
      ≡ cond (b && is_wanted (slot ∷ []) (Num v ∷ []) n r) (g a) 0 + total_by g (cond b (places_where (is_wanted (slot ∷ []) (Num v ∷ []) n) (a + 1) rows) [])) [
        | true ↦ first_place g (is_wanted (slot ∷ []) (Num v ∷ []) n) a r rows
        | false ↦ omega arith
      ]

  no_rows : (g : ℕ → ℕ) (a : ℕ) (v : ℤ) → total_by g (with_value slot interval n a [] v) ≡ 0
  no_rows g a v = elim (in_interval interval (Num v)) as (λ b. total_by g (cond b [] []) ≡ 0) [ true ↦ refl | false ↦ refl ]

  -- value by value the places are those of the interval
  pub values_counts : (vs : List ℤ) → IsStrictlySortedBy int_cmp vs → (a : ℕ) (rows : List SignedRow) → AreValued slot vs rows → SameCounts (flat_map (with_value slot interval n a rows) vs) (places_where (is_early slot interval n) a rows)
  values_counts vs sorted a [] valued g =
      total_by-flat_map g (with_value slot interval n a []) vs ∙ total_by-congr (λ v. total_by g (with_value slot interval n a [] v)) (λ _. 0) (no_rows g a) vs ∙ total_by-zero vs
  values_counts vs sorted a (r ∷ rows) valued g =
      let rest = values_counts vs sorted (a + 1) rows valued.1 g in
      let one = one_value (atom_at r.row slot) (nat_le r.number n) (g a) vs sorted valued.0 in
      let p = total_by-flat_map g (with_value slot interval n a (r ∷ rows)) vs in
      let q = total_by-congr (λ v. total_by g (with_value slot interval n a (r ∷ rows) v)) (λ v. cond (same_atom (atom_at r.row slot) (Num v)) (cond (is_early slot interval n r) (g a) 0) 0 + total_by g (with_value slot interval n (a + 1) rows v))
      (λ v. one_more g a r rows v ∙ ap (λ k. k + total_by g (with_value slot interval n (a + 1) rows v)) (own_weight r (g a) v)) vs in
      let s = total_by-add (λ v. cond (same_atom (atom_at r.row slot) (Num v)) (cond (is_early slot interval n r) (g a) 0) 0) (λ v. total_by g (with_value slot interval n (a + 1) rows v)) vs in
      let t = total_by-flat_map g (with_value slot interval n (a + 1) rows) vs in
      let u = first_place g (is_early slot interval n) a r rows in
      omega arith

-- where no value is of the interval, and where those of a test are all of them that are
module _ (slot : ℕ) (interval : Interval) (n a : ℕ) (rows : List SignedRow) where
  abbrev those : ℤ → List ℕ
  those = with_value slot interval n a rows

  abbrev inside : ℤ → Bool
  inside v = in_interval interval (Num v)

  not_inside : (v : ℤ) → inside v ≡ false → those v ≡ []
  not_inside v e = λ i. cond (e i) (places_where (is_wanted (slot ∷ []) (Num v ∷ []) n) a rows) []

  pub none_inside : (vs : List ℤ) → ((v : ℤ) → inside v ≡ true → ⊥) → flat_map those vs ≡ []
  none_inside [] none = refl
  none_inside (v ∷ vs) none =
      elim (inside v) as (λ b. inside v ≡ b → flat_map those (v ∷ vs) ≡ []) [
        | true ↦ λ e. absurd (none v e)
        | false ↦ λ e. (λ i. not_inside v e i ++ flat_map those vs) ∙ none_inside vs none
      ] refl

  pub those_between : (test : ℤ → Bool) (vs : List ℤ) → ((v : ℤ) → inside v ≡ true → test v ≡ true) → flat_map those (filter test vs) ≡ flat_map those vs
  those_between test [] says = refl
  those_between test (v ∷ vs) says =
      elim (test v) as (λ b. test v ≡ b → flat_map those (cond b (v ∷ filter test vs) (filter test vs)) ≡ those v ++ flat_map those vs) [
        | true ↦ λ e. ap (λ ps. those v ++ ps) (those_between test vs says)
        | false ↦ λ e.
            elim (inside v) as (λ c. inside v ≡ c → flat_map those (filter test vs) ≡ those v ++ flat_map those vs) [
              | true ↦ λ h. absurd (true≢false (sym (says v h) ∙ e))
              | false ↦ λ h. those_between test vs says ∙ (λ i. sym (not_inside v h) i ++ flat_map those vs)
            ] refl
      ] refl

-- two lists that do not fall and have the same counts are one

abbrev IsLeast : ℕ → List ℕ → Type 0
IsLeast x xs = AllByRecursion (λ y. x ≤ y) xs

abbrev Rises : List ℕ → Type 0
Rises [] = Unit {0}
Rises (x ∷ xs) = IsLeast x xs × Rises xs

rises_from : (xs : List ℕ) → IsNonDecreasingBy (λ x. x) xs → Rises xs
rises_from [] h = tt
rises_from (x ∷ xs) h = (
  recursion_from_All (λ y. x ≤ y) xs (λ j d below. h 0 (suc j) d (omega arith) (omega arith)),
  rises_from xs (λ i j d up below. h (suc i) (suc j) d (omega arith) (omega arith)),
)

least_from : (low x : ℕ) (xs : List ℕ) → x ≤ low → AreRising low xs → IsLeast x xs
least_from low x [] h r = tt
least_from low x (y ∷ ys) h r = let a = r.0 in (omega arith, least_from (y + 1) x ys (omega arith) r.1)

rises_too : (low : ℕ) (xs : List ℕ) → AreRising low xs → Rises xs
rises_too low [] r = tt
rises_too low (x ∷ xs) r = (least_from (x + 1) x xs (omega arith) r.1, rises_too (x + 1) xs r.1)

abbrev below : ℕ → ℕ → ℕ
below n x = cond (nat_lt x n) 1 0

none_below : (x n : ℕ) → n ≤ x → below n x ≡ 0
none_below x n h = ap (λ b. cond b 1 0) (le-ltb x n h)

not_below : (x n : ℕ) → below n x ≡ 0 → n ≤ x
not_below x n none = by (nat_lt x n) refl none
  where
    by : (b : Bool) → nat_lt x n ≡ b → ◌≡◌ {A = ℕ} (cond b 1 0) 0 → n ≤ x
    by true e h = absurd (omega (arith, h))
    by false e h = ltb-false x n e

least_below : (x : ℕ) (xs : List ℕ) → IsLeast x xs → total_by (below x) xs ≡ 0
least_below x [] all = refl
least_below x (y ∷ ys) all = λ i. none_below y x all.0 i + least_below x ys all.1 i

not_lower : (x y : ℕ) (xs ys : List ℕ) → IsLeast y ys → SameCounts (x ∷ xs) (y ∷ ys) → y ≤ x
not_lower x y xs ys all counts =
    let none = none_below y y (omega arith) in
    let rest = least_below y ys all in
    let same = counts (below y) in
    not_below x y (omega arith)

rising_is : (xs ys : List ℕ) → Rises xs → Rises ys → SameCounts xs ys → xs ≡ ys
rising_is [] [] r s counts = refl
rising_is [] (y ∷ ys) r s counts = let n = counts (λ _. 1) in absurd (omega arith)
rising_is (x ∷ xs) [] r s counts = let n = counts (λ _. 1) in absurd (omega arith)
rising_is (x ∷ xs) (y ∷ ys) r s counts =
    let up = not_lower x y xs ys s.0 counts in
    let down = not_lower y x ys xs r.0 (λ f. sym (counts f)) in
    let first : x ≡ y = omega arith in
    let rest = rising_is xs ys r.1 s.1 (λ f. let all = counts f in let one = ap f first in omega arith) in
    λ i. first i ∷ rest i

pub sorted_is : (xs ys : List ℕ) → IsNonDecreasingBy (λ x. x) xs → AreRising 0 ys → SameCounts xs ys → xs ≡ ys
sorted_is xs ys sorted rising counts = rising_is xs ys (rises_from xs sorted) (rises_too 0 ys rising) counts
