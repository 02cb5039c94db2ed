-- Entries that say what their keys held lead the rows of a scan from those before to those after.
use Rattle.std.proofs.Common.{◌≡◌, ℕ, ◌+◌, true, false, List, [], ◌∷◌, map, refl, sym, ◌∙◌, ap, arith}
use Rattle.std.specs.Prelude.{Option, Some, None}
use Rattle.std.specs.FinMap as by_key
use Rattle.ncq_base.specs.Keys.{weight}
use Rattle.ncq_base.specs.Keys as keys
use Rattle.ncq_tree.specs.declared.model.Element.{Element}
use Rattle.ncq_source.specs.declared.change.Entry.{Entry}
use Rattle.ncq_source.specs.Changes.{gains, losses}
use Rattle.ncq_source.specs.Changes as changes
use Rattle.ncq_source.specs.Held.{Kept}
use Rattle.ncq_source.proofs.CallerLemmas.{entries_total}
use Rattle.ncq_row.specs.declared.shape.Shape.{Shape}
use Rattle.ncq_row.specs.Embeddings.{Row, rows_of}
use Rattle.ncq_plan.specs.Exprs.{scan_rows}
use Rattle.ncq_base.specs.Counts.{total_by}
use Rattle.ncq_plan.specs.Totals.{plus_total, minus_total}
use Rattle.ncq_plan.specs.Deltas.{signed, ScansLead}
use Rattle.ncq_change.specs.Entries.{element_rows, entry_delta, scan_delta, scans_of, world_of, IsChange}
use Rattle.ncq_plan.proofs.DeltaLaws.{total-append, plus_total-append, minus_total-append, plus_total-signed, minus_total-signed}

module _ (shape : Shape) (f : Row → ℕ) where
  -- the sum of f over the rows of an element
  abbrev of_element : Element → ℕ
  of_element element = total_by f (rows_of shape element)

  pairs_total : (pairs : List (List ℕ × Element)) → total_by f (scan_rows shape (map (λ entry. entry.1) pairs)) ≡ keys.total of_element pairs
  pairs_total [] = refl
  pairs_total (pair ∷ pairs) =
      total-append f (rows_of shape pair.1) (scan_rows shape (map (λ entry. entry.1) pairs))
      ∙ ap (λ n. of_element pair.1 + n) (pairs_total pairs)

  of_option : (element : Option Element) → total_by f (element_rows shape element) ≡ weight of_element element
  of_option None = refl
  of_option (Some element) = refl

  entry_plus : (entry : Entry) → plus_total f (entry_delta shape entry) ≡ weight of_element entry.after
  entry_plus entry =
      plus_total-append f (signed false (element_rows shape entry.before)) (signed true (element_rows shape entry.after))
      ∙ (λ i. plus_total-signed f false (element_rows shape entry.before) i + plus_total-signed f true (element_rows shape entry.after) i)
      ∙ plain (total_by f (element_rows shape entry.after))
      ∙ of_option entry.after
    where
      plain : (n : ℕ) → 0 + n ≡ n
      plain n = omega arith

  entry_minus : (entry : Entry) → minus_total f (entry_delta shape entry) ≡ weight of_element entry.before
  entry_minus entry =
      minus_total-append f (signed false (element_rows shape entry.before)) (signed true (element_rows shape entry.after))
      ∙ (λ i. minus_total-signed f false (element_rows shape entry.before) i + minus_total-signed f true (element_rows shape entry.after) i)
      ∙ plain (total_by f (element_rows shape entry.before))
      ∙ of_option entry.before
    where
      plain : (n : ℕ) → n + 0 ≡ n
      plain n = omega arith

  pub scan_plus : (entries : List Entry) → plus_total f (scan_delta shape entries) ≡ gains of_element entries
  scan_plus [] = refl
  scan_plus (entry ∷ entries) =
      plus_total-append f (entry_delta shape entry) (scan_delta shape entries) ∙ (λ i. entry_plus entry i + scan_plus entries i)

  pub scan_minus : (entries : List Entry) → minus_total f (scan_delta shape entries) ≡ losses of_element entries
  scan_minus [] = refl
  scan_minus (entry ∷ entries) =
      minus_total-append f (entry_delta shape entry) (scan_delta shape entries) ∙ (λ i. entry_minus entry i + scan_minus entries i)

pub entries_lead : (before after : List ℕ → Kept) (entries : List ℕ → List Entry) → IsChange before after entries → ScansLead (world_of before) (world_of after) (scans_of entries)
entries_lead before after entries change source shape f =
    (λ i. total_by f (scan_rows shape (map (λ entry. entry.1) (by_key.entries (change.ends source i)))) + scan_minus shape f (entries source) i)
    ∙ (λ i. pairs_total shape f (by_key.entries (changes.after (before source) (entries source))) i + losses (of_element shape f) (entries source))
    ∙ entries_total (of_element shape f) (before source) (entries source) (change.chains source)
    ∙ (λ i. sym (pairs_total shape f (by_key.entries (before source))) i + sym (scan_plus shape f (entries source)) i)
