-- What is known of files whose rows are looked through: soundness, slots, and the rows that pass a test.
use Rattle.std.proofs.Common.{◌≡◌, ℕ, zero, suc, ◌+◌, ◌<◌, ◌≤◌, Bool, true, false, ◌&&◌, cond, nat_eq, List, [], ◌∷◌, ◌++◌, map, filter, length, get_or, take, drop, slice_get, refl, sym, ◌∙◌, ap, subst, arith, length-append, eq-eqb}
use Rattle.std.specs.Prelude.{Some}
use Rattle.std.specs.List.{All, AllByRecursion, cons_option}
use Rattle.std.proofs.lemmas.Bool.Decides.{nat_tests}
use Rattle.std.proofs.lemmas.List.{take_all}
use Rattle.std.proofs.lemmas.List.Elements.{All-from_recursion, recursion_from_All}
use Rattle.ncq_base.specs.Counts.{total_by, SameCounts}
use Rattle.ncq_base.proofs.CountLaws.{total_by-append, counts-filter, counts-length}
use Rattle.ncq_base.specs.Atoms.{same_atom}
use Rattle.ncq_base.specs.declared.atom.Atom.{Atom}
use Rattle.ncq_row.specs.Embeddings.{Row}
use Rattle.ncq_row.specs.Values.{atom_at}
use Rattle.ncq_plan.specs.Meets.{has_atom}
use Rattle.ncq_midfile.specs.Content.{IsContent, IsSoundAt, AreGains, losses, up_to, signed_at, rows_at}
use Rattle.ncq_midfile.specs.Matching.{HaveSlots, has_key}
use Rattle.ncq_midfile.specs.declared.signed.SignedRow.{SignedRow}
use Rattle.ncq_delta.proofs.JoinLaws.{row_more, row_left, same_content}

-- what has a content is sound
pub sound_content : (n : ℕ) (rows : List SignedRow) (list : List Row) → IsContent n rows list → IsSoundAt n rows
sound_content n rows list content f =
    let e = content f in
    let split = total_by-append f list (losses (up_to n rows)) in
    omega arith

-- rows as wide as the slots ask have them
pub have_slots : (slots : List ℕ) (width : ℕ) → AllByRecursion (λ slot. slot < width) slots → (rows : List SignedRow) → AllByRecursion (λ r. length r.row ≡ width) rows → HaveSlots slots rows
have_slots slots width below rows wide =
    All-from_recursion (λ (r : SignedRow). All (λ slot. slot < length r.row) slots) rows (each rows wide)
  where
    each : (rows : List SignedRow) → AllByRecursion (λ r. length r.row ≡ width) rows → AllByRecursion (λ (r : SignedRow). All (λ slot. slot < length r.row) slots) rows
    each [] h = tt
    each (r ∷ rows) h =
        (All-from_recursion (λ slot. slot < length r.row) slots (subst (λ n. AllByRecursion (λ slot. slot < n) slots) (sym h.0) below), each rows h.1)

-- a row is of another width
abbrev is_other : ℕ → Row → ℕ
is_other width row = cond (nat_eq (length row) width) 0 1

no_other : (width : ℕ) (rows : List Row) → AllByRecursion (λ row. length row ≡ width) rows → total_by (is_other width) rows ≡ 0
no_other width [] h = refl
no_other width (row ∷ rows) h = let rest = no_other width rows h.1 in let one : is_other width row ≡ 0 = ap (λ b. cond b 0 1) (eq-eqb (length row) width h.0) in omega arith

is_width : (width : ℕ) (row : Row) → nat_eq (length row) width ≡ true → length row ≡ width
is_width width row h = grind (arith, nat_tests, h)

all_wide : (width : ℕ) (rows : List Row) → total_by (is_other width) rows ≡ 0 → AllByRecursion (λ row. length row ≡ width) rows
all_wide width [] e = tt
all_wide width (row ∷ rows) e =
    elim (nat_eq (length row) width) as (λ b. nat_eq (length row) width ≡ b → cond b 0 1 + total_by (is_other width) rows ≡ 0 → (length row ≡ width) × AllByRecursion (λ row. length row ≡ width) rows) [
      | true ↦ λ t e. (is_width width row t, all_wide width rows (omega arith))
      | false ↦ λ t e. absurd (omega arith)
    ] refl e

-- rows that are the same as others are as wide
pub wide_same : (width : ℕ) (rows others : List Row) → SameCounts rows others → AllByRecursion (λ row. length row ≡ width) others → AllByRecursion (λ row. length row ≡ width) rows
wide_same width rows others same wide = all_wide width rows (same (is_other width) ∙ no_other width others wide)

-- a key of one atom is found where the slot has the atom
one_key : (slot : ℕ) (constant : Atom) (row : Row) → has_key (slot ∷ []) (constant ∷ []) row ≡ has_atom slot constant row
one_key slot constant row = last (same_atom (atom_at row slot) constant)
  where
    last : (b : Bool) → (b && true) ≡ b
    last true = refl
    last false = refl

same_filter : (t u : Row → Bool) → ((row : Row) → t row ≡ u row) → (rows : List Row) → filter t rows ≡ filter u rows
same_filter t u e [] = refl
same_filter t u e (row ∷ rows) = λ i. cond (e row i) (row ∷ same_filter t u e rows i) (same_filter t u e rows i)

-- copies of the rows at the places that a key of one atom leads to
module _ (slot : ℕ) (constant : Atom) (rows : List SignedRow) (places items : List ℕ) (list : List Row) (items_are : items ≡ places)
    (counts : SameCounts (rows_at places rows) (filter (has_key (slot ∷ []) (constant ∷ [])) list)) where
  pub keyed_rows : (made : List Row) → made ≡ rows_at items rows → SameCounts made (filter (has_atom slot constant) list)
  keyed_rows made is f =
      ap (total_by f) (is ∙ ap (λ ps. rows_at ps rows) items_are) ∙ counts f
      ∙ ap (total_by f) (same_filter (has_key (slot ∷ []) (constant ∷ [])) (has_atom slot constant) (one_key slot constant) list)

  pub keyed_length : AreGains rows places → length items ≡ length (filter (has_atom slot constant) list)
  keyed_length gains =
      ap length items_are ∙ sym (gains_length places gains)
      ∙ counts-length (rows_at places rows) (filter (has_atom slot constant) list) (keyed_rows (rows_at places rows) (ap (λ ps. rows_at ps rows) (sym items_are)))
    where
      gains_length : (places : List ℕ) → AreGains rows places → length (rows_at places rows) ≡ length places
      gains_length [] a = refl
      gains_length (place ∷ places) a = ap (λ o. length (map (λ r. r.row) (cons_option o (signed_at places rows)))) a.0.1 ∙ ap suc (gains_length places a.1)

-- the copy of the row at one place more
pub copied_more : (places : List ℕ) (i : ℕ) (rows : List SignedRow) (x : Row) → i < length places → slice_get (map (λ r. r.row) rows) (get_or places i 0) ≡ Some x
    → (out new : List Row) (copy : Row) → out ≡ rows_at (take i places) rows → new ≡ out ++ copy ∷ [] → copy ≡ x → new ≡ rows_at (take (i + 1) places) rows
copied_more places i rows x h at out new copy was is same = is ∙ (λ j. was j ++ same j ∷ []) ∙ sym (row_more places i rows x h at)

-- the row at a place has the slot that all rows have
pub row_has : (slot : ℕ) (rows : List SignedRow) (place : ℕ) (x : Row) → HaveSlots (slot ∷ []) rows → slice_get (map (λ r. r.row) rows) place ≡ Some x → slot < length x
row_has slot rows place x have at = one rows place (recursion_from_All (λ (r : SignedRow). All (λ s. s < length r.row) (slot ∷ [])) rows have) at
  where
    one : (rows : List SignedRow) (place : ℕ) → AllByRecursion (λ (r : SignedRow). All (λ s. s < length r.row) (slot ∷ [])) rows → slice_get (map (λ r. r.row) rows) place ≡ Some x → slot < length x
    one [] place h e = absurd cc
    one (r ∷ rows) zero h e = let same : r.row ≡ x = cc in subst (λ (y : Row). slot < length y) same (recursion_from_All (λ s. s < length r.row) (slot ∷ []) h.0).0
    one (r ∷ rows) (suc place) h e = one rows place h.1 e

kept_append : (b : Bool) (x : Row) (us vs ws : List Row) → us ≡ vs ++ ws → cond b (x ∷ us) us ≡ cond b (x ∷ vs) vs ++ ws
kept_append true x us vs ws e = ap (λ zs. x ∷ zs) e
kept_append false x us vs ws e = e

filter_append : (test : Row → Bool) (xs ys : List Row) → filter test (xs ++ ys) ≡ filter test xs ++ filter test ys
filter_append test [] ys = refl
filter_append test (x ∷ xs) ys = kept_append (test x) x (filter test (xs ++ ys)) (filter test xs) (filter test ys) (filter_append test xs ys)

filter_first : (test : Row → Bool) (x : Row) (xs : List Row) → length (filter test (x ∷ xs)) ≡ length (filter test (x ∷ [])) + length (filter test xs)
filter_first test x xs = ap length (filter_append test (x ∷ []) xs) ∙ length-append (filter test (x ∷ [])) (filter test xs)

-- the rows at one place more that pass a test, and those at the places that are left
module _ (test : Row → Bool) (places : List ℕ) (i : ℕ) (rows : List SignedRow) (x : Row) (h : i < length places) (at : slice_get (map (λ r. r.row) rows) (get_or places i 0) ≡ Some x) where
  pub passed_more : (out new : List Row) → out ≡ filter test (rows_at (take i places) rows) → new ≡ out ++ filter test (x ∷ []) → new ≡ filter test (rows_at (take (i + 1) places) rows)
  passed_more out new was is =
      is ∙ ap (λ ys. ys ++ filter test (x ∷ [])) was
      ∙ sym (ap (filter test) (row_more places i rows x h at) ∙ filter_append test (rows_at (take i places) rows) (x ∷ []))

  pub passed_left : length (filter test (rows_at (drop i places) rows)) ≡ length (filter test (x ∷ [])) + length (filter test (rows_at (drop (i + 1) places) rows))
  passed_left = ap (λ ys. length (filter test ys)) (row_left places i rows x h at) ∙ filter_first test x (rows_at (drop (i + 1) places) rows)

-- the rows of the content that pass a test
passed_same : (test : Row → Bool) (n : ℕ) (rows : List SignedRow) (places items : List ℕ) (list : List Row) → items ≡ places → IsContent n rows (rows_at places rows) → IsContent n rows list
    → SameCounts (filter test (rows_at items rows)) (filter test list)
passed_same test n rows places items list same at content =
    subst (λ ps. SameCounts (filter test (rows_at ps rows)) (filter test list)) (sym same)
    (counts-filter test (rows_at places rows) list (same_content n rows (rows_at places rows) list at content))

pub passed_length : (test : Row → Bool) (n : ℕ) (rows : List SignedRow) (places items : List ℕ) (list : List Row) → items ≡ places → IsContent n rows (rows_at places rows) → IsContent n rows list
    → length (filter test (rows_at items rows)) ≡ length (filter test list)
passed_length test n rows places items list same at content = counts-length (filter test (rows_at items rows)) (filter test list) (passed_same test n rows places items list same at content)

-- and so of all places that were gone through
pub passed_all : (test : Row → Bool) (n : ℕ) (rows : List SignedRow) (places items : List ℕ) (list : List Row) → items ≡ places → IsContent n rows (rows_at places rows) → IsContent n rows list
    → (i : ℕ) (made : List Row) → length items ≤ i → made ≡ filter test (rows_at (take i items) rows) → SameCounts made (filter test list)
passed_all test n rows places items list same at content i made long is =
    subst (λ (ys : List Row). SameCounts ys (filter test list)) (sym (is ∙ ap (λ ps. filter test (rows_at ps rows)) (take_all i items long))) (passed_same test n rows places items list same at content)
