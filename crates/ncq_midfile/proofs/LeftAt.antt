-- The rows that are left at a change, with those above it behind them.
use Rattle.std.proofs.Common.{◌≡◌, ℕ, zero, suc, ◌+◌, ◌<◌, ◌≤◌, true, false, cond, List, [], ◌∷◌, ◌++◌, append-nil, length, take, slice_get, Option, Some, None, nat_le, nat_lt, refl, sym, ◌∙◌, ap, subst, arith, inl, inr}
use Rattle.std.specs.List.{All, AllByRecursion, cons_option, range_with_len}
use Rattle.std.proofs.lemmas.Bool.{le-ltb, leb-false, ltb-true}
use Rattle.std.proofs.lemmas.List.Elements.{recursion_from_All}
use Rattle.ncq_base.proofs.CountLaws.{total_by-append}
use Rattle.ncq_midfile.specs.Content.{Row, rows_of, losses, up_to, since, signed_at, IsContent, IsPart, AreRising, AreGains}
use Rattle.ncq_midfile.specs.Files.{AreLeftAt, AreNumbered, AreOrdered, AreParted, IsBased, IsFile, IsThere}
use Rattle.ncq_midfile.specs.Folds.{LeaveTheSame}
use Rattle.ncq_midfile.specs.declared.signed.SignedRow.{SignedRow}
use Rattle.ncq_midfile.proofs.Cuts.{AreAbove, none_above, one_above}
use Rattle.ncq_midfile.proofs.FoldLaws.{left_later}
use Rattle.ncq_midfile.proofs.Foldeds.{all_places, part_each, up_all}
use Rattle.ncq_midfile.proofs.Gathers.{same_or_less}
use Rattle.ncq_midfile.proofs.PairLaws.{AllCame, AreBelow, came_lw, gains_total, losses_total, rows_total, slice_front}
use Rattle.ncq_midfile.proofs.Parts.{length_front, rising_from}
use Rattle.ncq_midfile.proofs.Sounds.{all_front}
use Rattle.ncq_midfile.proofs.Withins.{filter_append, numbered_of}

-- rows that are there have numbers up to the base, and came in
there_early : (n : ℕ) (rows : List SignedRow) → AllByRecursion (IsThere n) rows → AllByRecursion (λ r. r.number ≤ n) rows
there_early n [] a = tt
there_early n (r ∷ rows) a = (a.0.0, there_early n rows a.1)

there_came : (n : ℕ) (rows : List SignedRow) → AllByRecursion (IsThere n) rows → AllCame rows
there_came n [] a = tt
there_came n (r ∷ rows) a = (a.0.1, there_came n rows a.1)

-- the rows above a number are above it
later_above : (n : ℕ) (rows : List SignedRow) → AreAbove n (since n rows)
later_above n [] = none_above n
later_above n (r ∷ rows) =
    elim (nat_lt n r.number) as (λ b. nat_lt n r.number ≡ b → AreAbove n (cond b (r ∷ since n rows) (since n rows))) [
      | true ↦ λ e. one_above n r (since n rows) (ltb-true n r.number e) (later_above n rows)
      | false ↦ λ e. later_above n rows
    ] refl

all_above : (n : ℕ) (rows : List SignedRow) → AllByRecursion (λ x. n < x.number) rows → AreAbove n rows
all_above n [] a = none_above n
all_above n (r ∷ rows) a = one_above n r rows a.0 (all_above n rows a.1)

-- rows that are left in front of all that are above
pub front_left : (n : ℕ) (old front : List SignedRow) → AllByRecursion (IsThere n) front → IsContent n old (rows_of front) → AreLeftAt n old (front ++ since n old)
front_left n old front all content =
    let early = up_all n front (there_early n front all) in
    let above = later_above n old in
    let up : up_to n (front ++ since n old) ≡ front =
    filter_append (λ r. nat_le r.number n) front (since n old) ∙ (λ i. early.0 i ++ above.none i) ∙ append-nil front in
    record {
      there = subst (AllByRecursion (IsThere n)) (sym up) all;
      content = subst (λ rs. IsContent n old (rows_of rs)) (sym up) content;
      later = filter_append (λ r. nat_lt n r.number) front (since n old) ∙ (λ i. early.1 i ++ above.all i);
    }

-- where no row is above, those that are left are all
pub all_left : (n : ℕ) (old new : List SignedRow) → AllByRecursion (λ r. r.number ≤ n) old → AllByRecursion (IsThere n) new → IsContent n old (rows_of new) → AreLeftAt n old new
all_left n old new last all content =
    subst (AreLeftAt n old) (ap (λ rs. new ++ rs) (up_all n old last).1 ∙ append-nil new) (front_left n old new all content)

-- what holds of each item holds of the one at a place
none_there : {A : Type 0} (x : A) → ◌≡◌ {A = Option A} None (Some x) → ⊥
none_there x e = cc

same_item : {A : Type 0} (x y : A) → ◌≡◌ {A = Option A} (Some x) (Some y) → x ≡ y
same_item x y e = cc

at_place : {A : Type 0} (P : A → Type 0) (xs : List A) (i : ℕ) (x : A) → AllByRecursion P xs → slice_get xs i ≡ Some x → P x
at_place P [] i x all at = absurd (none_there x at)
at_place P (y ∷ xs) zero x all at = subst P (same_item y x at) all.0
at_place P (y ∷ xs) (suc i) x all at = at_place P xs i x all.1 at

-- the rows that came in at places of the rows up to n are there at n
pub gains_there : (n early : ℕ) (rows : List SignedRow) (places : List ℕ) → up_to n rows ≡ take early rows → AreGains rows places → AreBelow early places → AllByRecursion (IsThere n) (signed_at places rows)
gains_there n early rows [] front gained below = tt
gains_there n early rows (p ∷ ps) front gained below =
    let all = subst (AllByRecursion (λ (r : SignedRow). r.number ≤ n)) front (all_front n rows) in
    subst (λ o. AllByRecursion (IsThere n) (cons_option o (signed_at ps rows))) (sym gained.0.1) (
      (at_place (λ (r : SignedRow). r.number ≤ n) (take early rows) p gained.0.0 all (slice_front early p rows below.0 ∙ gained.0.1), gained.0.2),
      gains_there n early rows ps front gained.1 below.1,
    )

-- there are as many rows up to n as stand in front
pub early_below : (n early : ℕ) (rows : List SignedRow) (places : List ℕ) → early ≤ length rows → up_to n rows ≡ take early rows → All (λ place. place < length (up_to n rows)) places → AreBelow early places
early_below n early rows places within front below =
    subst (λ k. AreBelow k places) (ap length front ∙ length_front early rows within) (recursion_from_All (λ (place : ℕ). place < length (up_to n rows)) places below)

-- places below a number and behind them places from it on rise
pub rising_append : (low high : ℕ) (xs ys : List ℕ) → low ≤ high → AreRising low xs → AreBelow high xs → AreRising high ys → AreRising low (xs ++ ys)
rising_append low high [] ys h r b s = rising_from low high ys h s
rising_append low high (x ∷ xs) ys h r b s = let here = b.0 in (r.0, rising_append (x + 1) high xs ys (omega arith) r.1 b.1 s)

-- rising places are some of all places
rising_part : (a n : ℕ) (ps : List ℕ) → AreRising a ps → AreBelow (a + n) ps → IsPart ps (range_with_len a n)
rising_part a n [] r b = tt
rising_part a zero (p ∷ ps) r b = let up = r.0 in let here = b.0 in absurd (omega arith)
rising_part a (suc n) (p ∷ ps) r b =
    let next : a + suc n ≡ a + 1 + n = omega arith in
    let below = subst (λ k. AreBelow k (p ∷ ps)) next b in
    elim (same_or_less a p r.0) [
      | inl e ↦ inl (sym e, rising_part (a + 1) n ps (subst (λ k. AreRising (k + 1) ps) (sym e) r.1) below.1)
      | inr l ↦ inr (rising_part (a + 1) n (p ∷ ps) (omega arith, r.1) below)
    ]

-- some of rows that are parted are parted
above_parted : (n : ℕ) (rows : List SignedRow) → AllByRecursion (λ x. n < x.number) rows → AreParted n rows
above_parted n [] a = tt
above_parted n (r ∷ rows) a = inr a

skipped_parted : (n : ℕ) (o : Option SignedRow) (ys : List SignedRow) → AreParted n (cons_option o ys) → AreParted n ys
skipped_parted n None ys a = a
skipped_parted n (Some r) ys a = elim a [ inl q ↦ q.1 | inr q ↦ above_parted n ys q.1 ]

consed_parted : (n : ℕ) (o : Option SignedRow) (xs ys : List SignedRow) → (AreParted n ys → AreParted n xs) → (AllByRecursion (λ x. n < x.number) ys → AllByRecursion (λ x. n < x.number) xs)
    → AreParted n (cons_option o ys) → AreParted n (cons_option o xs)
consed_parted n None xs ys some each a = some a
consed_parted n (Some r) xs ys some each a = elim a [ inl q ↦ inl (q.0, some q.1) | inr q ↦ inr (q.0, each q.1) ]

part_parted : (n : ℕ) (xs ys : List ℕ) (rows : List SignedRow) → IsPart xs ys → AreParted n (signed_at ys rows) → AreParted n (signed_at xs rows)
part_parted n [] ys rows p a = tt
part_parted n (x ∷ xs) [] rows p a = absurd p
part_parted n (x ∷ xs) (y ∷ ys) rows p a =
    elim p [
      | inl q ↦ subst (λ z. AreParted n (signed_at (z ∷ xs) rows)) (sym q.0)
          (consed_parted n (slice_get rows y) (signed_at xs rows) (signed_at ys rows) (part_parted n xs ys rows q.1) (part_each (λ x. n < x.number) xs ys rows q.1) a)
      | inr q ↦ part_parted n (x ∷ xs) ys rows q (skipped_parted n (slice_get rows y) (signed_at ys rows) a)
    ]

pub rising_parted : (n : ℕ) (places : List ℕ) (rows : List SignedRow) → AreRising 0 places → All (λ place. place < length rows) places → AreParted n rows → AreParted n (signed_at places rows)
rising_parted n places rows rising within parted =
    let whole : length rows ≡ 0 + length rows = omega arith in
    part_parted n places (range_with_len 0 (length rows)) rows
    (rising_part 0 (length rows) places rising (subst (λ k. AreBelow k places) whole (recursion_from_All (λ (place : ℕ). place < length rows) places within)))
    (subst (AreParted n) (sym (all_places rows)) parted)

-- above the base numbers never fall
later_numbered : (base n : ℕ) (rows : List SignedRow) → base ≤ n → AreOrdered base rows → AreNumbered 0 (since n rows)
later_numbered base n [] h a = tt
later_numbered base n (r ∷ rows) h a =
    elim a [
      | inl q ↦
          let few = q.0 in
          let low : nat_lt n r.number ≡ false = le-ltb n r.number (omega arith) in
          subst (λ b. AreNumbered 0 (cond b (r ∷ since n rows) (since n rows))) (sym low) (later_numbered base n rows h q.1)
      | inr q ↦ numbered_of (λ x. nat_lt n x.number) 0 (r ∷ rows) (omega arith, q.1)
    ]

-- rows that are parted are in order where those above are
parted_in_order : (n : ℕ) (rows : List SignedRow) → AreParted n rows → AreNumbered 0 (since n rows) → AreOrdered n rows
parted_in_order n [] a later = tt
parted_in_order n (r ∷ rows) a later =
    elim a [
      | inl q ↦ inl (q.0, parted_in_order n rows q.1 (subst (λ b. AreNumbered 0 (cond b (r ∷ since n rows) (since n rows))) (le-ltb n r.number q.0) later))
      | inr q ↦
          let whole = subst (AreNumbered 0) (all_above n (r ∷ rows) q).all later in
          inr (q.0, whole.1)
    ]

-- where the rows up to n are there, each is above n or there
left_based : (n : ℕ) (rows : List SignedRow) → AllByRecursion (IsThere n) (up_to n rows) → AllByRecursion (IsBased n) rows
left_based n [] all = tt
left_based n (r ∷ rows) all =
    elim (nat_le r.number n) as (λ b. nat_le r.number n ≡ b → AllByRecursion (IsThere n) (cond b (r ∷ up_to n rows) (up_to n rows)) → AllByRecursion (IsBased n) (r ∷ rows)) [
      | true ↦ λ e all. (inr all.0, left_based n rows all.1)
      | false ↦ λ e all. (inl (leb-false r.number n e), left_based n rows all)
    ] refl all

-- a file of the rows that are left at a change that is not below its base
pub file_left : (base n : ℕ) (old new : List SignedRow) → base ≤ n → IsFile base old → AreParted n new → AreLeftAt n old new → IsFile n new
file_left base n old new h file parted left = record {
  ordered = parted_in_order n new parted (subst (AreNumbered 0) (sym left.later) (later_numbered base n old h file.ordered));
  based = left_based n new left.there;
}

-- the rows left at n leave the same there
left_same : (n : ℕ) (old new : List SignedRow) → AreLeftAt n old new → LeaveTheSame n old new
left_same n old new left f =
    let early = up_to n new in
    let a = left.content f in
    let b = total_by-append f (rows_of early) (losses (up_to n old)) in
    let c = rows_total f early in
    let d = came_lw f early (there_came n early left.there) in
    let e = losses_total f early in
    let g = gains_total f early in
    omega arith

-- what was a content at n or later is one
pub left_stays : (n at : ℕ) (old new : List SignedRow) → AreLeftAt n old new → n ≤ at → (list : List Row) → IsContent at old list → IsContent at new list
left_stays n at old new left up list content f =
    let same = left_later n at old new (left_same n old new left) left.later up f in
    let a = content f in
    let b = total_by-append f list (losses (up_to at old)) in
    let c = total_by-append f list (losses (up_to at new)) in
    omega arith
