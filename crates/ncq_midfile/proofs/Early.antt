-- The rows of an interval up to a number, from one place on.
use Rattle.std.proofs.Common.{◌≡◌, ℕ, zero, suc, ◌+◌, ◌-◌, ◌≤◌, inl, inr, Bool, true, false, ◌&&◌, List, [], ◌∷◌, ◌++◌, filter, length, take, drop, nat_le, max, refl, sym, ◌∙◌, ap, arith}
use Rattle.std.specs.List.{AllByRecursion}
use Rattle.std.proofs.lemmas.Bool.{cases_lt}
use Rattle.std.proofs.lemmas.List.{drop_all, drop-take, drop-drop, length-take}
use Rattle.ncq_base.specs.declared.interval.Interval.{Interval}
use Rattle.ncq_midfile.specs.Content.{up_to, since, signed_at}
use Rattle.ncq_midfile.specs.Matching.{places_where}
use Rattle.ncq_midfile.specs.Ranged.{is_early, is_early_of_both}
use Rattle.ncq_midfile.specs.Views.{is_within, of_rows}
use Rattle.ncq_midfile.specs.declared.signed.SignedRow.{SignedRow}
use Rattle.ncq_midfile.proofs.Foldeds.{up_all}
use Rattle.ncq_midfile.proofs.IndexLaws.{places_split}
use Rattle.ncq_midfile.proofs.Withins.{filter_both, both_signed, early_of, from_signed, since_of}

module _ (slot outer_slot : ℕ) (interval outer : Interval) (n : ℕ) (rows : List SignedRow) where
  -- the rows of two intervals up to a number
  pub both_signed_at : signed_at (places_where (is_early_of_both slot interval outer_slot outer n) 0 rows) rows ≡ up_to n (of_rows (is_within slot interval) (of_rows (is_within outer_slot outer) rows))
  both_signed_at =
      both_signed (is_early slot interval n) (λ r. is_within outer_slot outer r.row) rows
      ∙ early_of slot interval n (of_rows (is_within outer_slot outer) rows)

  -- it is the same whichever interval comes first
  pub both_turned : places_where (λ r. is_early outer_slot outer n r && is_within slot interval r.row) 0 rows ≡ places_where (is_early_of_both slot interval outer_slot outer n) 0 rows
  both_turned = λ i. places_where (λ r. turned (nat_le r.number n) (is_within outer_slot outer r.row) (is_within slot interval r.row) i) 0 rows
    where
      turned : (a b c : Bool) → (a && b && c) ≡ (a && c && b)
      turned true true true = refl
      turned true true false = refl
      turned true false true = refl
      turned true false false = refl
      turned false b c = refl

pub all_drop : {A : Type 0} (P : A → Type 0) (n : ℕ) (xs : List A) → AllByRecursion P xs → AllByRecursion P (drop n xs)
all_drop P zero xs a = a
all_drop P (suc n) [] a = tt
all_drop P (suc n) (x ∷ xs) a = all_drop P n xs a.1

-- up to the last number there are all rows of an interval
pub early_all : (slot : ℕ) (interval : Interval) (last : ℕ) (rows : List SignedRow) → AllByRecursion (λ r. r.number ≤ last) rows → filter (is_early slot interval last) rows ≡ of_rows (is_within slot interval) rows
early_all slot interval last rows all =
    filter_both (λ r. is_within slot interval r.row) (λ r. nat_le r.number last) rows ∙ ap (of_rows (is_within slot interval)) (up_all last rows all).0

-- the rows above a number are those from one place on
pub since_early : (slot : ℕ) (interval : Interval) (last n from : ℕ) (rows : List SignedRow) → from ≤ length rows → since n rows ≡ drop from rows → AllByRecursion (λ r. r.number ≤ last) rows
    → signed_at (places_where (is_early slot interval last) from (drop from rows)) rows ≡ since n (of_rows (is_within slot interval) rows)
since_early slot interval last n from rows h back all =
    from_signed (is_early slot interval last) from rows h
    ∙ early_all slot interval last (drop from rows) (all_drop (λ (r : SignedRow). r.number ≤ last) from rows all)
    ∙ ap (of_rows (is_within slot interval)) (sym back) ∙ sym (since_of n (is_within slot interval) rows)

-- the places from one on are those among the first rows and those behind them
pub places_join : (test : SignedRow → Bool) (from k m : ℕ) (rows : List SignedRow) → m ≡ max from k
    → places_where test from (drop from (take k rows)) ++ places_where test m (drop m rows) ≡ places_where test from (drop from rows)
places_join test from k m rows is = elim (cases_lt k from) [
  | inr h ↦
      let j : ℕ = k - from in
      let whole : k ≡ from + j = omega arith in
      let at : m ≡ from + j = omega arith in
      (λ i. places_where test from (drop from (take (whole i) rows)) ++ places_where test (at i) (drop (at i) rows))
      ∙ (λ i. places_where test from (drop-take from j rows i) ++ places_where test (from + j) (sym (drop-drop j from rows) i))
      ∙ places_split test from j (drop from rows)
  | inl h ↦
      let at : m ≡ from = omega arith in
      let few = length-take k rows in
      let none : drop from (take k rows) ≡ [] = drop_all from (take k rows) (omega arith) in
      λ i. places_where test from (none i) ++ places_where test (at i) (drop (at i) rows)
]
