-- What a firing tells: the difference of two answers.
use Rattle.std.proofs.Common.{◌≡◌, ℕ, zero, suc, ◌+◌, ◌<◌, ◌≤◌, Bool, true, List, [], ◌∷◌, map, length, get_or, drop, slice_get, Some, refl, sym, ◌∙◌, ap, subst}
use Rattle.std.specs.Prelude.{ℤ}
use Rattle.std.specs.FinMap.{empty}
use Rattle.std.specs.List.{AllByRecursion, cons_option}
use Rattle.std.proofs.lemmas.List.{at_drop_all, drop_more}
use Rattle.ncq_base.specs.Keys.{ByBytes}
use Rattle.ncq_bag.specs.Bags.{difference, differences}
use Rattle.ncq_bag.specs.declared.bag.Difference.{Difference}
use Rattle.ncq_row.specs.Embeddings.{Row}
use Rattle.ncq_plan.specs.declared.query.NormalQuery.{NormalQuery}
use Rattle.ncq_plan.specs.Deltas.{signed}
use Rattle.ncq_plan.specs.Relations.{Relations}
use Rattle.ncq_plan.specs.Residuals.{passes}
use Rattle.ncq_plan.specs.Totals.{SignedRow as PlainRow, LeadsTo}
use Rattle.ncq_plan.proofs.CallerLemmas.{leads_from_nothing}
use Rattle.ncq_midfile.specs.Content.{since, rows_at, signed_at, IsContent}
use Rattle.ncq_midfile.specs.declared.signed.SignedRow.{SignedRow}
use Rattle.ncq_callback.specs.Gathered.{answer_of, counts_after, with_row}
use Rattle.ncq_callback.proofs.TellLaws.{counts_tell}
use Rattle.ncq_delta.specs.Leads.{unnumbered}
use Rattle.ncq_delta.proofs.LeadLaws.{file_leads}
use Rattle.ncq_news.specs.News.{answers_in, entries_of}
use Rattle.ncq_news.specs.Laws.{NewsTellTheDifference}
use Rattle.ncq_news.proofs.ContentLaws.{all_lead}

module _ (relations : Relations) (query : NormalQuery) where
  -- the entries of rows that come and go, one after the other
  abbrev told : List PlainRow → List Difference
  told delta = differences (counts_after (passes relations query.residual) (answer_of query.template) empty delta)

  told_is : (before now : List Row) (delta : List PlainRow) → LeadsTo before delta now → told delta ≡ difference (answers_in relations query now) (answers_in relations query before)
  told_is before now delta leads = counts_tell before now delta leads (passes relations query.residual) (answer_of query.template)

  -- all rows tell the answer of the content at the last number
  pub all_tell : (last : ℕ) (rows : List SignedRow) (now : List Row) → AllByRecursion (λ r. r.number ≤ last) rows → IsContent last rows now
      → entries_of relations query rows ≡ difference (answers_in relations query now) []
  all_tell last rows now all content = told_is [] now (unnumbered rows) (all_lead last rows now all content)

  -- those behind a mark tell how it differs from that at the mark
  pub since_tell : (mark last : ℕ) (rows : List SignedRow) (before now : List Row) → AllByRecursion (λ r. r.number ≤ last) rows
      → IsContent mark rows before → IsContent last rows now
      → entries_of relations query (since mark rows) ≡ difference (answers_in relations query now) (answers_in relations query before)
  since_tell mark last rows before now all was content =
      told_is before now (unnumbered (since mark rows)) (file_leads mark last rows before now (record { last = all; content_before = was; content_after = content }))

  -- the rows of the content, as they come, tell what all rows tell
  pub content_tells : (last : ℕ) (rows : List SignedRow) (now : List Row) → AllByRecursion (λ r. r.number ≤ last) rows → IsContent last rows now
      → told (signed true now) ≡ entries_of relations query rows
  content_tells last rows now all content = told_is [] now (signed true now) (leads_from_nothing now) ∙ sym (all_tell last rows now all content)

pub news_tell : NewsTellTheDifference
news_tell = record {
  first = all_tell;
  later = λ relations query mark last rows before now all below was content. since_tell relations query mark last rows before now all was content;
}

-- the row that is read at a place of a file
read_row : (rows : List SignedRow) (place : ℕ) (x : Row) → slice_get (map (λ r. r.row) rows) place ≡ Some x → (r : SignedRow) × (slice_get rows place ≡ Some r) × (r.row ≡ x)
read_row [] place x e = absurd cc
read_row (r ∷ rows) zero x e = (r, refl, cc)
read_row (r ∷ rows) (suc place) x e = read_row rows place x e

-- the rows at places from one on: that at the place, and those behind it
row_first : (places : List ℕ) (i : ℕ) (rows : List SignedRow) (x : Row) → i < length places → slice_get (map (λ r. r.row) rows) (get_or places i 0) ≡ Some x
    → rows_at (drop i places) rows ≡ x ∷ rows_at (drop (i + 1) places) rows
row_first places i rows x h at =
    let it = read_row rows (get_or places i 0) x at in
    ap (λ ps. rows_at ps rows) (drop_more places i 0 h)
    ∙ ap (λ o. map (λ r. r.row) (cons_option o (signed_at (drop (i + 1) places) rows))) it.1
    ∙ ap (λ y. y ∷ rows_at (drop (i + 1) places) rows) it.2

-- the row at a place is as wide as all are
pub row_wide : (width : ℕ) (rows : List SignedRow) (place : ℕ) (x : Row) → AllByRecursion (λ r. length r.row ≡ width) rows → slice_get (map (λ r. r.row) rows) place ≡ Some x → length x ≡ width
row_wide width [] place x wide at = absurd cc
row_wide width (r ∷ rows) zero x wide at = let same : r.row ≡ x = cc in subst (λ (y : Row). length y ≡ width) same wide.0
row_wide width (r ∷ rows) (suc place) x wide at = row_wide width rows place x wide.1 at

pub signed_wide : (width : ℕ) (rows : List SignedRow) (place : ℕ) (r : SignedRow) → AllByRecursion (λ r. length r.row ≡ width) rows → slice_get rows place ≡ Some r → length r.row ≡ width
signed_wide width [] place r wide at = absurd cc
signed_wide width (x ∷ rows) zero r wide at = let same : x ≡ r = cc in subst (λ (y : SignedRow). length y.row ≡ width) same wide.0
signed_wide width (x ∷ rows) (suc place) r wide at = signed_wide width rows place r wide.1 at

-- the signed rows at places from one on
pub signed_first : (places : List ℕ) (i : ℕ) (rows : List SignedRow) (r : SignedRow) → i < length places → slice_get rows (get_or places i 0) ≡ Some r
    → signed_at (drop i places) rows ≡ r ∷ signed_at (drop (i + 1) places) rows
signed_first places i rows r h at =
    ap (λ ps. signed_at ps rows) (drop_more places i 0 h) ∙ ap (λ o. cons_option o (signed_at (drop (i + 1) places) rows)) at

-- what is counted of rows at places, as they come: that at one place more, and at the end all
module _ (test : Row → Bool) (bytes : Row → List ℕ) (places : List ℕ) (i : ℕ) (rows : List SignedRow) (counts all : ByBytes ℤ)
    (so_far : counts_after test bytes counts (signed true (rows_at (drop i places) rows)) ≡ all) where
  pub counted_more : (x : Row) (more : ByBytes ℤ) → i < length places → slice_get (map (λ r. r.row) rows) (get_or places i 0) ≡ Some x → more ≡ with_row test bytes counts x true
      → counts_after test bytes more (signed true (rows_at (drop (i + 1) places) rows)) ≡ all
  counted_more x more h at is =
      ap (λ m. counts_after test bytes m (signed true (rows_at (drop (i + 1) places) rows))) is
      ∙ ap (λ ys. counts_after test bytes counts (signed true ys)) (sym (row_first places i rows x h at))
      ∙ so_far

  pub counted_all : length places ≤ i → counts ≡ all
  counted_all end = sym (at_drop_all (λ ps. counts_after test bytes counts (signed true (rows_at ps rows))) places i end) ∙ so_far
