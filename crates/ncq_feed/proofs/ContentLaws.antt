-- The content of a file after signed rows of one change more.
use Rattle.std.proofs.Common.{◌≡◌, ℕ, suc, ◌≤◌, ◌+◌, true, false, not, cond, nat_le, nat_lt, List, [], ◌∷◌, ◌++◌, map, inl, inr, refl, sym, ap, ◌∙◌, subst, arith}
use Rattle.std.specs.List.{filter, AllByRecursion}
use Rattle.std.proofs.lemmas.Bool.{le-leb}
use Rattle.std.proofs.lemmas.Bool.Decides.{leb_tells}
use Rattle.std.proofs.lemmas.List.{map-append}
use Rattle.std.proofs.lemmas.List.Elements.{filter-append}
use Rattle.ncq_base.specs.Counts.{total_by, SameCounts}
use Rattle.ncq_base.proofs.CountLaws.{total_by-append}
use Rattle.ncq_row.specs.Embeddings.{Row}
use Rattle.ncq_plan.specs.Totals.{SignedRow as PlainRow, SameChanges, LeadsTo, plus_total, minus_total}
use Rattle.ncq_midfile.specs.declared.signed.SignedRow.{SignedRow}
use Rattle.ncq_midfile.specs.Content.{gains, losses, up_to, since, IsContent, IsSoundAt}
use Rattle.ncq_delta.specs.Leads.{unnumbered}

-- signed rows up to a number, and above it

pub all_up : (n : ℕ) (rows : List SignedRow) → AllByRecursion (λ r. r.number ≤ n) rows → up_to n rows ≡ rows
all_up n [] h = refl
all_up n (r ∷ rows) h = λ i. cond (le-leb r.number n h.0 i) (r ∷ all_up n rows h.1 i) (all_up n rows h.1 i)

pub up_more : (n : ℕ) (rows news : List SignedRow) → AllByRecursion (λ r. r.number ≤ n) rows → AllByRecursion (λ r. r.number ≡ n + 1) news → AllByRecursion (λ r. r.number ≤ n + 1) (rows ++ news)
up_more n [] [] h k = tt
up_more n [] (r ∷ news) h k = (let e = k.0 in omega arith, up_more n [] news h k.1)
up_more n (r ∷ rows) news h k = (let l = h.0 in omega arith, up_more n rows news h.1 k)

not_up : (n m : ℕ) → m ≡ n + 1 → nat_le m n ≡ false
not_up n m e = elim (leb_tells m n) [ inl t ↦ absurd (let l = t.1 in omega arith) | inr t ↦ t.0 ]

is_since : (n m : ℕ) → m ≡ n + 1 → nat_lt n m ≡ true
is_since n m e = le-leb (suc n) m (omega arith)

not_since : (n m : ℕ) → m ≤ n → nat_lt n m ≡ false
not_since n m e = elim (leb_tells (suc n) m) [ inl t ↦ absurd (let l = t.1 in omega arith) | inr t ↦ t.0 ]

pub none_up : (n : ℕ) (news : List SignedRow) → AllByRecursion (λ r. r.number ≡ n + 1) news → up_to n news ≡ []
none_up n [] h = refl
none_up n (r ∷ news) h = (λ i. cond (not_up n r.number h.0 i) (r ∷ up_to n news) (up_to n news)) ∙ none_up n news h.1

pub all_since : (n : ℕ) (news : List SignedRow) → AllByRecursion (λ r. r.number ≡ n + 1) news → since n news ≡ news
all_since n [] h = refl
all_since n (r ∷ news) h = λ i. cond (is_since n r.number h.0 i) (r ∷ all_since n news h.1 i) (all_since n news h.1 i)

pub none_since : (n : ℕ) (rows : List SignedRow) → AllByRecursion (λ r. r.number ≤ n) rows → since n rows ≡ []
none_since n [] h = refl
none_since n (r ∷ rows) h = (λ i. cond (not_since n r.number h.0 i) (r ∷ since n rows) (since n rows)) ∙ none_since n rows h.1

-- rows of changes up to a number, with rows of the next change behind them
module _ (n : ℕ) (rows news : List SignedRow) (old : AllByRecursion (λ r. r.number ≤ n) rows) (new : AllByRecursion (λ r. r.number ≡ n + 1) news) where
  pub up_before : up_to n (rows ++ news) ≡ rows
  up_before = filter-append (λ (r : SignedRow). nat_le r.number n) rows news ∙ (λ i. all_up n rows old i ++ none_up n news new i) ∙ back rows
    where
      back : (xs : List SignedRow) → xs ++ [] ≡ xs
      back [] = refl
      back (x ∷ xs) = ap (λ ys. x ∷ ys) (back xs)

  pub up_after : up_to (n + 1) (rows ++ news) ≡ rows ++ news
  up_after = all_up (n + 1) (rows ++ news) (up_more n rows news old new)

  -- the content before is that without the rows of the change
  pub content_before : (list : List Row) → IsContent n rows list → IsContent n (rows ++ news) list
  content_before list content = subst (λ (xs : List SignedRow). SameCounts (list ++ losses xs) (gains xs)) (all_up n rows old ∙ sym up_before) content

-- a file that has a content is sound
pub content_sound : (n : ℕ) (rows : List SignedRow) (list : List Row) → IsContent n rows list → IsSoundAt n rows
content_sound n rows list content f =
    let c = content f in
    let a = total_by-append f list (losses (up_to n rows)) in
    omega arith

gains-append : (rows news : List SignedRow) → gains (rows ++ news) ≡ gains rows ++ gains news
gains-append rows news = ap (map (λ (r : SignedRow). r.row)) (filter-append (λ (r : SignedRow). r.plus) rows news) ∙ map-append (λ (r : SignedRow). r.row) (filter (λ (r : SignedRow). r.plus) rows) (filter (λ (r : SignedRow). r.plus) news)

losses-append : (rows news : List SignedRow) → losses (rows ++ news) ≡ losses rows ++ losses news
losses-append rows news = ap (map (λ (r : SignedRow). r.row)) (filter-append (λ (r : SignedRow). not r.plus) rows news) ∙ map-append (λ (r : SignedRow). r.row) (filter (λ (r : SignedRow). not r.plus) rows) (filter (λ (r : SignedRow). not r.plus) news)

total_gains : (f : Row → ℕ) (news : List SignedRow) → total_by f (gains news) ≡ plus_total f (unnumbered news)
total_gains f [] = refl
total_gains f (r ∷ news) = elim r.plus as (λ b. total_by f (map (λ (r : SignedRow). r.row) (cond b (r ∷ filter (λ (r : SignedRow). r.plus) news) (filter (λ (r : SignedRow). r.plus) news))) ≡ cond b (f r.row) 0 + plus_total f (unnumbered news)) [
  | true ↦ ap (λ (n : ℕ). f r.row + n) (total_gains f news)
  | false ↦ let e = total_gains f news in omega arith
]

total_losses : (f : Row → ℕ) (news : List SignedRow) → total_by f (losses news) ≡ minus_total f (unnumbered news)
total_losses f [] = refl
total_losses f (r ∷ news) = elim r.plus as (λ b. total_by f (map (λ (r : SignedRow). r.row) (cond (not b) (r ∷ filter (λ (r : SignedRow). not r.plus) news) (filter (λ (r : SignedRow). not r.plus) news))) ≡ cond b 0 (f r.row) + minus_total f (unnumbered news)) [
  | true ↦ let e = total_losses f news in omega arith
  | false ↦ ap (λ (n : ℕ). f r.row + n) (total_losses f news)
]

-- the content after a change, from the content before and the changes
pub content_after : (n : ℕ) (rows news : List SignedRow) (before after : List Row) (delta : List PlainRow)
    → AllByRecursion (λ r. r.number ≤ n) rows → AllByRecursion (λ r. r.number ≡ n + 1) news → IsContent n rows before
    → SameChanges (unnumbered news) delta → LeadsTo before delta after → IsContent (n + 1) (rows ++ news) after
content_after n rows news before after delta old new held same leads f =
    let lost : total_by f (losses (up_to (n + 1) (rows ++ news))) ≡ total_by f (losses rows) + total_by f (losses news) =
    ap (λ r. total_by f (losses r)) (up_after n rows news old new) ∙ ap (total_by f) (losses-append rows news) ∙ total_by-append f (losses rows) (losses news) in
    let came : total_by f (gains (up_to (n + 1) (rows ++ news))) ≡ total_by f (gains rows) + total_by f (gains news) =
    ap (λ r. total_by f (gains r)) (up_after n rows news old new) ∙ ap (total_by f) (gains-append rows news) ∙ total_by-append f (gains rows) (gains news) in
    let was : total_by f (before ++ losses rows) ≡ total_by f (gains rows) =
    ap (λ r. total_by f (before ++ losses r)) (sym (all_up n rows old)) ∙ held f ∙ ap (λ r. total_by f (gains r)) (all_up n rows old) in
    let both = total_by-append f before (losses rows) in
    let all = total_by-append f after (losses (up_to (n + 1) (rows ++ news))) in
    let plus : total_by f (gains news) ≡ plus_total f delta = total_gains f news ∙ same.plus f in
    let minus : total_by f (losses news) ≡ minus_total f delta = total_losses f news ∙ same.minus f in
    let l = leads f in
    omega arith
