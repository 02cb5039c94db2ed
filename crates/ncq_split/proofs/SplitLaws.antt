-- What a split gives of one row more, and how much it is.
use Rattle.std.proofs.Common.{◌≡◌, ℕ, ◌+◌, ◌<◌, ◌≤◌, Bool, true, false, cond, ◌&&◌, List, [], ◌∷◌, ◌++◌, filter, map, length, get_or, take, drop, take-append-drop, slice_get, Some, length-append, append_assoc, append-nil, refl, sym, ◌∙◌, ap, arith}
use Rattle.std.specs.List.{flat_map}
use Rattle.std.proofs.lemmas.List.{map-append, length-map}
use Rattle.ncq_base.proofs.CountLaws.{counts-filter, counts-length}
use Rattle.ncq_base.specs.declared.atom.Atom.{Atom}
use Rattle.ncq_base.specs.declared.atom.FileId.{FileId}
use Rattle.ncq_midfile.specs.Content.{Row, rows_of, signed_at, IsContent}
use Rattle.ncq_midfile.specs.Made.{gained_at}
use Rattle.ncq_midfile.specs.Views.{IsContentOf, of_rows}
use Rattle.ncq_midfile.specs.declared.signed.SignedRow.{SignedRow}
use Rattle.ncq_midfile.proofs.Compacts.{one_content}
use Rattle.ncq_midfile.proofs.Parts.{signed_more, signed_at-append}
use Rattle.ncq_midfile.proofs.Withins.{filter_append, filter_both}
use Rattle.ncq_split.specs.Splits.{row_parcels, parcels_of}
use Rattle.ncq_split.specs.declared.parcel.Parcel.{Parcel}

-- what is made of signed rows one by one
module _ {B : Type 0} (F : List SignedRow → List B) (each : (xs ys : List SignedRow) → F (xs ++ ys) ≡ F xs ++ F ys)
    (places : List ℕ) (i : ℕ) (rows : List SignedRow) (r : SignedRow) (h : i < length places) (at : slice_get rows (get_or places i 0) ≡ Some r) where
  to_next : F (signed_at (take (i + 1) places) rows) ≡ F (signed_at (take i places) rows) ++ F (r ∷ [])
  to_next = ap F (signed_more places i (get_or places i 0) rows r h refl at) ∙ each (signed_at (take i places) rows) (r ∷ [])

  pub made_more : (made new : List B) → made ≡ F (signed_at (take i places) rows) → new ≡ made ++ F (r ∷ []) → new ≡ F (signed_at (take (i + 1) places) rows)
  made_more made new old is = is ∙ ap (λ ys. ys ++ F (r ∷ [])) old ∙ sym to_next

  pub cost_more : (start before after : ℕ) → before ≤ start + length (F (signed_at (take i places) rows)) → after ≤ before + length (F (r ∷ [])) → after ≤ start + length (F (signed_at (take (i + 1) places) rows))
  cost_more start before after front one =
      let all = ap length to_next ∙ length-append (F (signed_at (take i places) rows)) (F (r ∷ [])) in
      omega arith

  pub cost_most : (start before after : ℕ) → before ≤ start + length (F (signed_at (take i places) rows)) → after ≤ before + length (F (r ∷ [])) → after ≤ start + length (F (signed_at places rows))
  cost_most start before after front one =
      let some = cost_more start before after front one in
      let all = ap length (ap (λ ps. F (signed_at ps rows)) (sym (take-append-drop (i + 1) places))
      ∙ ap F (signed_at-append (take (i + 1) places) (drop (i + 1) places) rows)
      ∙ each (signed_at (take (i + 1) places) rows) (signed_at (drop (i + 1) places) rows))
      ∙ length-append (F (signed_at (take (i + 1) places) rows)) (F (signed_at (drop (i + 1) places) rows)) in
      omega arith

pub parcels_append : (files : Atom → List FileId) (slot : ℕ) (xs ys : List SignedRow) → parcels_of files slot (xs ++ ys) ≡ parcels_of files slot xs ++ parcels_of files slot ys
parcels_append files slot [] ys = refl
parcels_append files slot (x ∷ xs) ys =
    ap (λ ps. row_parcels files slot x ++ ps) (parcels_append files slot xs ys)
    ∙ sym (append_assoc (row_parcels files slot x) (parcels_of files slot xs) (parcels_of files slot ys))

pub parcels_one : (files : Atom → List FileId) (slot : ℕ) (r : SignedRow) → row_parcels files slot r ≡ parcels_of files slot (r ∷ [])
parcels_one files slot r = sym (append-nil (row_parcels files slot r))

pub of_rows_append : (test : Row → Bool) (xs ys : List SignedRow) → of_rows test (xs ++ ys) ≡ of_rows test xs ++ of_rows test ys
of_rows_append test xs ys = filter_append (λ r. test r.row) xs ys

-- the rows that a new interval brings
abbrev pub brought : (Row → Bool) → ℕ → List SignedRow → List SignedRow
brought missing n rows = map (gained_at n) (filter missing (rows_of rows))

pub brought_append : (missing : Row → Bool) (n : ℕ) (xs ys : List SignedRow) → brought missing n (xs ++ ys) ≡ brought missing n xs ++ brought missing n ys
brought_append missing n xs ys =
    ap (λ rs. map (gained_at n) (filter missing rs)) (map-append (λ (r : SignedRow). r.row) xs ys)
    ∙ ap (map (gained_at n)) (filter_append missing (rows_of xs) (rows_of ys))
    ∙ map-append (gained_at n) (filter missing (rows_of xs)) (filter missing (rows_of ys))

-- of a content, the rows missing are those found that no interval holds
module _ (within unheld : Row → Bool) (found rest : List Row) (all : filter within found ≡ found) (none : filter within rest ≡ []) where
  pub only_found : filter (λ row. within row && unheld row) (found ++ rest) ≡ filter unheld found
  only_found =
      filter_append (λ row. within row && unheld row) found rest
      ∙ (λ i. (filter_both unheld within found ∙ ap (filter unheld) all) i ++ (filter_both unheld within rest ∙ ap (filter unheld) none) i)
      ∙ append-nil (filter unheld found)

-- so many rows are missing of any list that is the content
pub brought_length : (within unheld : Row → Bool) (n : ℕ) (own below : List SignedRow) (places : List ℕ) (list : List Row) → IsContentOf within n own (rows_of (signed_at places below)) → IsContent n own list
    → length (brought unheld n (signed_at places below)) ≡ length (filter (λ row. within row && unheld row) list)
brought_length within unheld n own below places list of content =
    let found = rows_of (signed_at places below) in
    let missing : Row → Bool = λ row. within row && unheld row in
    let all = found ++ of.1.0 in
    length-map (filter unheld found) (gained_at n)
    ∙ ap length (sym (only_found within unheld found of.1.0 of.0 of.1.1))
    ∙ counts-length (filter missing all) (filter missing list)
    (counts-filter missing all list (one_content n own all list of.1.2 content))
