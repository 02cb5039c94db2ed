-- The change of a join is the delta of a join as plans have it, and leads from one content to the next.
use Rattle.std.proofs.Common.{◌≡◌, ℕ, suc, ◌+◌, ◌<◌, ◌≤◌, Bool, true, false, cond, nat_le, nat_lt, List, [], ◌∷◌, map, refl, sym, ◌∙◌, ap, arith, inl, inr, ◌⊎◌, zero-add, add-zero}
use Rattle.std.specs.List.{flat_map, AllByRecursion}
use Rattle.std.proofs.lemmas.Bool.Decides.{leb_tells}
use Rattle.ncq_base.specs.Counts.{total_by, SameCounts}
use Rattle.ncq_base.proofs.CountLaws.{total_by-append, total_by-map, total_by-flat_map, total_by-congr, total_by-swap, total_by-zero, total_by-filter}
use Rattle.ncq_row.specs.Embeddings.{Row}
use Rattle.ncq_row.specs.declared.pair.Pair.{Pair}
use Rattle.ncq_plan.specs.Deltas.{join_delta}
use Rattle.ncq_plan.specs.Exprs.{join_rows}
use Rattle.ncq_plan.specs.Totals.{plus_total, minus_total, SameChanges, LeadsTo}
use Rattle.ncq_plan.proofs.DeltaLaws.{behind, total-join, plus_total-join, minus_total-join, join_leads}
use Rattle.ncq_midfile.specs.Content.{losses, up_to, since}
use Rattle.ncq_midfile.specs.declared.signed.SignedRow.{SignedRow}
use Rattle.ncq_midfile.proofs.Sounds.{gains_total, losses_total}
use Rattle.ncq_delta.specs.Joins.{with_row, with_rights, with_lefts, join_change}
use Rattle.ncq_delta.specs.Leads.{unnumbered, HasContents}

-- What a signed row weighs by its sign: `pick` gives what rows of that sign weigh, and 0 for others.
module _ (pick : Bool → ℕ → ℕ) (pick_total : (p : Bool) (f : Row → ℕ) (xs : List Row) → total_by (λ x. pick p (f x)) xs ≡ pick p (total_by f xs)) where
  abbrev pub weight : (Row → ℕ) → SignedRow → ℕ
  weight f r = pick r.plus (f r.row)

  changed_total : (f : Row → ℕ) (c : SignedRow) (rows : List Row) → total_by (weight f) (map (with_row c) rows) ≡ pick c.plus (total_by f rows)
  changed_total f c rows = total_by-map (weight f) (with_row c) rows ∙ pick_total c.plus f rows

  module _ (f : Row → ℕ) (pairs : List Pair) where
    left_total : (before : List Row) (left : List SignedRow) → total_by (weight f) (flat_map (with_rights pairs before) left) ≡ total_by (weight (λ row. total_by (behind pairs f row) before)) left
    left_total before left =
        total_by-flat_map (weight f) (with_rights pairs before) left
        ∙ total_by-congr (λ c. total_by (weight f) (with_rights pairs before c)) (weight (λ row. total_by (behind pairs f row) before)) (λ c.
        changed_total f c (join_rows pairs (c.row ∷ []) before)
        ∙ ap (pick c.plus) (total-join f pairs (c.row ∷ []) before ∙ add-zero (total_by (behind pairs f c.row) before))) left

    right_total : (now : List Row) (right : List SignedRow) → total_by (weight f) (flat_map (with_lefts pairs now) right) ≡ total_by (λ row. total_by (weight (behind pairs f row)) right) now
    right_total now right =
        total_by-flat_map (weight f) (with_lefts pairs now) right
        ∙ total_by-congr (λ c. total_by (weight f) (with_lefts pairs now c)) (λ c. total_by (λ row. weight (behind pairs f row) c) now) (λ c.
        changed_total f c (join_rows pairs now (c.row ∷ []))
        ∙ ap (pick c.plus) (total-join f pairs now (c.row ∷ [])
        ∙ total_by-congr (λ row. total_by (behind pairs f row) (c.row ∷ [])) (λ row. behind pairs f row c.row) (λ row. add-zero (behind pairs f row c.row)) now)
        ∙ sym (pick_total c.plus (λ row. behind pairs f row c.row) now)) right
        ∙ total_by-swap (λ c row. weight (behind pairs f row) c) right now

    pub change_total : (before now : List Row) (left right : List SignedRow) → total_by (weight f) (join_change pairs left before now right)
        ≡ total_by (weight (λ row. total_by (behind pairs f row) before)) left + total_by (λ row. total_by (weight (behind pairs f row)) right) now
    change_total before now left right =
        total_by-append (weight f) (flat_map (with_rights pairs before) left) (flat_map (with_lefts pairs now) right)
        ∙ (λ i. left_total before left i + right_total now right i)

-- rows that come, and rows that go

abbrev come : Bool → ℕ → ℕ
come plus n = cond plus n 0

abbrev go : Bool → ℕ → ℕ
go plus n = cond plus 0 n

come_total : (p : Bool) (f : Row → ℕ) (xs : List Row) → total_by (λ x. come p (f x)) xs ≡ come p (total_by f xs)
come_total true f xs = refl
come_total false f xs = total_by-zero xs

go_total : (p : Bool) (f : Row → ℕ) (xs : List Row) → total_by (λ x. go p (f x)) xs ≡ go p (total_by f xs)
go_total true f xs = total_by-zero xs
go_total false f xs = refl

plus_is : (f : Row → ℕ) (rows : List SignedRow) → plus_total f (unnumbered rows) ≡ total_by (weight come come_total f) rows
plus_is f [] = refl
plus_is f (r ∷ rows) = ap (λ n. come r.plus (f r.row) + n) (plus_is f rows)

minus_is : (f : Row → ℕ) (rows : List SignedRow) → minus_total f (unnumbered rows) ≡ total_by (weight go go_total f) rows
minus_is f [] = refl
minus_is f (r ∷ rows) = ap (λ n. go r.plus (f r.row) + n) (minus_is f rows)

-- the change of a join is the delta of a join
pub same_delta : (pairs : List Pair) (left right rows : List SignedRow) (before now : List Row) → SameCounts rows (join_change pairs left before now right)
    → SameChanges (unnumbered rows) (join_delta pairs (unnumbered left) before now (unnumbered right))
same_delta pairs left right rows before now counts = record {
  plus = λ f.
      plus_is f rows ∙ counts (weight come come_total f) ∙ change_total come come_total f pairs before now left right
      ∙ (λ i. sym (plus_is (λ row. total_by (behind pairs f row) before) left) i
      + total_by-congr (λ row. total_by (weight come come_total (behind pairs f row)) right) (λ row. plus_total (behind pairs f row) (unnumbered right)) (λ row. sym (plus_is (behind pairs f row) right)) now i)
      ∙ sym (plus_total-join f pairs (unnumbered left) before now (unnumbered right));
  minus = λ f.
      minus_is f rows ∙ counts (weight go go_total f) ∙ change_total go go_total f pairs before now left right
      ∙ (λ i. sym (minus_is (λ row. total_by (behind pairs f row) before) left) i
      + total_by-congr (λ row. total_by (weight go go_total (behind pairs f row)) right) (λ row. minus_total (behind pairs f row) (unnumbered right)) (λ row. sym (minus_is (behind pairs f row) right)) now i)
      ∙ sym (minus_total-join f pairs (unnumbered left) before now (unnumbered right));
}

-- files

module _ (w : SignedRow → ℕ) (first second : ℕ) where
  one_apart : (r : SignedRow) → r.number ≤ second → cond (nat_le r.number second) (w r) 0 ≡ cond (nat_le r.number first) (w r) 0 + cond (nat_lt first r.number) (w r) 0
  one_apart r up =
      elim (leb_tells r.number second) [
        | inr t ↦ absurd (let over = t.1 in omega arith)
        | inl t ↦ ap (λ b. cond b (w r) 0) t.0 ∙ by (leb_tells r.number first) (leb_tells (suc first) r.number)
      ]
    where
      by : ((nat_le r.number first ≡ true) × (r.number ≤ first)) ⊎ ((nat_le r.number first ≡ false) × (first < r.number))
          → ((nat_lt first r.number ≡ true) × (first < r.number)) ⊎ ((nat_lt first r.number ≡ false) × (r.number < suc first))
          → w r ≡ cond (nat_le r.number first) (w r) 0 + cond (nat_lt first r.number) (w r) 0
      by (inl a) (inl b) = absurd (let x = a.1 in let y = b.1 in omega arith)
      by (inl a) (inr b) = sym (add-zero (w r)) ∙ (λ i. cond (sym a.0 i) (w r) 0 + cond (sym b.0 i) (w r) 0)
      by (inr a) (inl b) = sym (zero-add (w r)) ∙ (λ i. cond (sym a.0 i) (w r) 0 + cond (sym b.0 i) (w r) 0)
      by (inr a) (inr b) = absurd (let x = a.1 in let y = b.1 in omega arith)

  -- what weighs up to the second number weighs up to the first, or between
  apart : (rows : List SignedRow) → AllByRecursion (λ r. r.number ≤ second) rows
      → total_by (λ r. cond (nat_le r.number second) (w r) 0) rows ≡ total_by (λ r. cond (nat_le r.number first) (w r) 0) rows + total_by w (since first rows)
  apart [] all = refl
  apart (r ∷ rows) all =
      let one = one_apart r all.0 in
      let rest = apart rows all.1 in
      let f = total_by-filter w (λ r. nat_lt first r.number) (r ∷ rows) in
      let g = total_by-filter w (λ r. nat_lt first r.number) rows in
      omega arith

-- what a file has above a number leads from its content there to its content at the last number
pub file_leads : (first second : ℕ) (rows : List SignedRow) (before after : List Row) → HasContents first second rows before after → LeadsTo before (unnumbered (since first rows)) after
file_leads first second rows before after has f =
    let a = has.content_before f in
    let b = has.content_after f in
    let a' = total_by-append f before (losses (up_to first rows)) in
    let b' = total_by-append f after (losses (up_to second rows)) in
    let g1 = gains_total f first rows in
    let g2 = gains_total f second rows in
    let l1 = losses_total f first rows in
    let l2 = losses_total f second rows in
    let p = plus_is f (since first rows) in
    let m = minus_is f (since first rows) in
    let g = apart (weight come come_total f) first second rows has.last in
    let l = apart (weight go go_total f) first second rows has.last in
    omega arith

-- and so does the change of a join
pub join_leads_on : (pairs : List Pair) (first second : ℕ) (left right rows : List SignedRow) (left_before left_now right_before right_now : List Row)
    → HasContents first second left left_before left_now → HasContents first second right right_before right_now
    → SameCounts rows (join_change pairs (since first left) right_before left_now (since first right))
    → LeadsTo (join_rows pairs left_before right_before) (unnumbered rows) (join_rows pairs left_now right_now)
join_leads_on pairs first second left right rows left_before left_now right_before right_now has_left has_right counts f =
    let same = same_delta pairs (since first left) (since first right) rows right_before left_now counts in
    let leads = join_leads pairs left_before left_now right_before right_now (unnumbered (since first left)) (unnumbered (since first right))
    (file_leads first second left left_before left_now has_left) (file_leads first second right right_before right_now has_right) f in
    (λ i. total_by f (join_rows pairs left_now right_now) + same.minus f i) ∙ leads ∙ (λ i. total_by f (join_rows pairs left_before right_before) + sym (same.plus f) i)
