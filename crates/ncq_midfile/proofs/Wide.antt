-- Each row has the slots: also where rows are added or taken away, and of what is left at a change.
use Rattle.std.proofs.Common.{◌≡◌, ℕ, ◌+◌, ◌<◌, Bool, true, false, cond, ◌&&◌, List, [], ◌∷◌, ◌++◌, filter, length, nat_le, refl, ◌∙◌, arith}
use Rattle.std.specs.List.{All, AllByRecursion}
use Rattle.std.proofs.lemmas.Bool.{le-leb, leb-true}
use Rattle.std.proofs.lemmas.List.Elements.{All-from_recursion, recursion_from_All}
use Rattle.ncq_base.specs.Counts.{total_by}
use Rattle.ncq_base.proofs.CountLaws.{total_by-append}
use Rattle.ncq_base.proofs.Tests.{both_true}
use Rattle.ncq_midfile.specs.Content.{Row, rows_of, losses, up_to, IsContent}
use Rattle.ncq_midfile.specs.Matching.{HaveSlots}
use Rattle.ncq_midfile.specs.declared.signed.SignedRow.{SignedRow}
use Rattle.ncq_midfile.proofs.Parts.{all_push}

-- whether the row has each of the slots
wide : List ℕ → Row → Bool
wide [] row = true
wide (slot ∷ slots) row = nat_le (slot + 1) (length row) && wide slots row

wide_is : (slots : List ℕ) (row : Row) → AllByRecursion (λ slot. slot < length row) slots → wide slots row ≡ true
unfolding wide
wide_is [] row all = refl
wide_is (slot ∷ slots) row all =
    let here = all.0 in
    (λ i. le-leb (slot + 1) (length row) (omega arith) i && wide slots row) ∙ wide_is slots row all.1

wide_tells : (slots : List ℕ) (row : Row) → wide slots row ≡ true → AllByRecursion (λ slot. slot < length row) slots
unfolding wide
wide_tells [] row h = tt
wide_tells (slot ∷ slots) row h =
    let b = both_true (nat_le (slot + 1) (length row)) (wide slots row) h in
    let here = leb-true (slot + 1) (length row) b.0 in
    (omega arith, wide_tells slots row b.1)

pub all_filtered : {A : Type 0} (P : A → Type 0) (test : A → Bool) (xs : List A) → AllByRecursion P xs → AllByRecursion P (filter test xs)
all_filtered P test [] all = tt
all_filtered P test (x ∷ xs) all = by (test x) (all_filtered P test xs all.1)
  where
    by : (b : Bool) → AllByRecursion P (filter test xs) → AllByRecursion P (cond b (x ∷ filter test xs) (filter test xs))
    by true rest = (all.0, rest)
    by false rest = rest

-- a row that lacks a slot weighs 1
lacks : List ℕ → Row → ℕ
lacks slots row = cond (wide slots row) 0 1

none_lacks : (slots : List ℕ) (rows : List SignedRow) → AllByRecursion (λ r. All (λ slot. slot < length r.row) slots) rows → total_by (lacks slots) (rows_of rows) ≡ 0
unfolding lacks
none_lacks slots [] all = refl
none_lacks slots (r ∷ rows) all =
    let here : wide slots r.row ≡ true = wide_is slots r.row (recursion_from_All (λ slot. slot < length r.row) slots all.0) in
    (λ i. cond (here i) 0 1 + total_by (lacks slots) (rows_of rows)) ∙ let rest = none_lacks slots rows all.1 in omega arith

lacks_none : (slots : List ℕ) (rows : List SignedRow) → total_by (lacks slots) (rows_of rows) ≡ 0 → AllByRecursion (λ r. All (λ slot. slot < length r.row) slots) rows
unfolding lacks
lacks_none slots [] none = tt
lacks_none slots (r ∷ rows) none =
    elim (wide slots r.row) as (λ b. wide slots r.row ≡ b → cond b 0 1 + total_by (lacks slots) (rows_of rows) ≡ 0 → AllByRecursion (λ r. All (λ slot. slot < length r.row) slots) (r ∷ rows)) [
      | true ↦ λ e none. (All-from_recursion (λ slot. slot < length r.row) slots (wide_tells slots r.row e), lacks_none slots rows (omega arith))
      | false ↦ λ e none. absurd (omega arith)
    ] refl none

module _ (slots : List ℕ) where
  abbrev Has : SignedRow → Type 0
  Has r = All (λ slot. slot < length r.row) slots

  pub wide_push : (rows : List SignedRow) (r : SignedRow) → HaveSlots slots rows → All (λ slot. slot < length r.row) slots → HaveSlots slots (rows ++ r ∷ [])
  wide_push rows r all one = All-from_recursion Has (rows ++ r ∷ []) (all_push Has rows r (recursion_from_All Has rows all) one)

  pub wide_up_to : (n : ℕ) (rows : List SignedRow) → HaveSlots slots rows → HaveSlots slots (up_to n rows)
  wide_up_to n rows all = All-from_recursion Has (up_to n rows) (all_filtered Has (λ r. nat_le r.number n) rows (recursion_from_All Has rows all))

  -- what is left at a change has the slots that the rows have
  pub wide_content : (n : ℕ) (rows left : List SignedRow) → HaveSlots slots rows → IsContent n rows (rows_of left) → HaveSlots slots left
  wide_content n rows left all content =
      let came = filter (λ r. r.plus) (up_to n rows) in
      let some : AllByRecursion Has came =
      all_filtered Has (λ r. r.plus) (up_to n rows) (all_filtered Has (λ r. nat_le r.number n) rows (recursion_from_All Has rows all)) in
      let a = total_by-append (lacks slots) (rows_of left) (losses (up_to n rows)) in
      let b = content (lacks slots) in
      let c = none_lacks slots came some in
      All-from_recursion Has left (lacks_none slots left (omega arith))
