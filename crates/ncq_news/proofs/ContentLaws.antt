-- The signed rows of a file lead from nothing to its content.
use Rattle.std.proofs.Common.{◌≡◌, ℕ, ◌+◌, ◌≤◌, Bool, true, false, cond, not, List, [], ◌∷◌, refl, sym, ◌∙◌, ap, arith}
use Rattle.std.specs.List.{filter, AllByRecursion}
use Rattle.std.proofs.lemmas.Bool.{le-leb}
use Rattle.ncq_base.specs.Counts.{total_by}
use Rattle.ncq_base.proofs.CountLaws.{total_by-append, total_by-congr, total_by-filter, total_by-map}
use Rattle.ncq_row.specs.Embeddings.{Row}
use Rattle.ncq_plan.specs.Totals.{plus_total, minus_total, LeadsTo}
use Rattle.ncq_midfile.specs.Content.{gains, losses, up_to, IsContent}
use Rattle.ncq_midfile.specs.declared.signed.SignedRow.{SignedRow}
use Rattle.ncq_delta.specs.Leads.{unnumbered}

-- what a row that came in weighs, and what one that went out weighs
module _ (f : Row → ℕ) where
  abbrev came : SignedRow → ℕ
  came r = cond r.plus (f r.row) 0

  abbrev went : SignedRow → ℕ
  went r = cond r.plus 0 (f r.row)

  plus_is : (rows : List SignedRow) → plus_total f (unnumbered rows) ≡ total_by came rows
  plus_is [] = refl
  plus_is (r ∷ rows) = ap (λ n. came r + n) (plus_is rows)

  minus_is : (rows : List SignedRow) → minus_total f (unnumbered rows) ≡ total_by went rows
  minus_is [] = refl
  minus_is (r ∷ rows) = ap (λ n. went r + n) (minus_is rows)

  gains_are : (rows : List SignedRow) → total_by f (gains rows) ≡ total_by came rows
  gains_are rows = total_by-map f (λ (r : SignedRow). r.row) (filter (λ r. r.plus) rows) ∙ total_by-filter (λ (r : SignedRow). f r.row) (λ r. r.plus) rows

  losses_are : (rows : List SignedRow) → total_by f (losses rows) ≡ total_by went rows
  losses_are rows =
      total_by-map f (λ (r : SignedRow). r.row) (filter (λ r. not r.plus) rows)
      ∙ total_by-filter (λ (r : SignedRow). f r.row) (λ r. not r.plus) rows
      ∙ total_by-congr (λ (r : SignedRow). cond (not r.plus) (f r.row) 0) went (λ r. turned r.plus (f r.row)) rows
    where
      turned : (plus : Bool) (n : ℕ) → cond (not plus) n 0 ≡ cond plus 0 n
      turned true n = refl
      turned false n = refl

-- where no number exceeds this one, the rows up to it are all
up_to_last : (last : ℕ) (rows : List SignedRow) → AllByRecursion (λ r. r.number ≤ last) rows → up_to last rows ≡ rows
up_to_last last [] all = refl
up_to_last last (r ∷ rows) all =
    (λ i. cond (le-leb r.number last all.0 i) (r ∷ up_to last rows) (up_to last rows))
    ∙ ap (λ rest. r ∷ rest) (up_to_last last rows all.1)

module _ (f : Row → ℕ) where
  -- what a content weighs, and all rows
  content_weighs : (n : ℕ) (rows : List SignedRow) (list : List Row) → IsContent n rows list → total_by f list + total_by (went f) (up_to n rows) ≡ total_by (came f) (up_to n rows)
  content_weighs n rows list content =
      ap (λ m. total_by f list + m) (sym (losses_are f (up_to n rows)))
      ∙ sym (total_by-append f list (losses (up_to n rows)))
      ∙ content f
      ∙ gains_are f (up_to n rows)

  last_weighs : (last : ℕ) (rows : List SignedRow) (now : List Row) → AllByRecursion (λ r. r.number ≤ last) rows → IsContent last rows now
      → total_by f now + total_by (went f) rows ≡ total_by (came f) rows
  last_weighs last rows now all content =
      let whole = up_to_last last rows all in
      (λ i. total_by f now + total_by (went f) (sym whole i)) ∙ content_weighs last rows now content ∙ ap (total_by (came f)) whole

-- all signed rows lead from nothing to the content at the last number
pub all_lead : (last : ℕ) (rows : List SignedRow) (now : List Row) → AllByRecursion (λ r. r.number ≤ last) rows → IsContent last rows now
    → LeadsTo [] (unnumbered rows) now
all_lead last rows now all content f =
    (λ i. total_by f now + minus_is f rows i) ∙ last_weighs f last rows now all content ∙ sym (plus_is f rows)
    ∙ let here : plus_total f (unnumbered rows) ≡ 0 + plus_total f (unnumbered rows) = omega arith in here
