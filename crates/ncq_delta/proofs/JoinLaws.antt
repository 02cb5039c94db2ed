-- What is joined row by row has the counts of the join.
use Rattle.std.proofs.Common.{◌≡◌, ℕ, zero, suc, ◌+◌, ◌<◌, ◌≤◌, Bool, true, false, cond, nat_lt, List, [], ◌∷◌, ◌++◌, map, filter, length, get_or, take, drop, take-append-drop, append-nil, length-append, slice_get, Some, None, Option, Result, Ok, Err, IfOk, refl, sym, ◌∙◌, ap, subst, arith}
use Rattle.std.specs.List.{flat_map, All, AllByRecursion, cons_option}
use Rattle.std.proofs.lemmas.List.{map-append, length-map, drop_more, take_more, flat_map_more}
use Rattle.std.proofs.lemmas.List.Folds.{length-flat_map-take}
use Rattle.std.proofs.lemmas.List.Elements.{All-from_recursion, recursion_from_All}
use Rattle.ncq_base.specs.Counts.{total_by, SameCounts}
use Rattle.ncq_base.proofs.CountLaws.{counts-append, counts-map, counts-length, counts-flat_map, total_by-append}
use Rattle.ncq_base.specs.declared.atom.Atom.{Atom}
use Rattle.ncq_row.specs.declared.pair.Pair.{Pair}
use Rattle.ncq_row.specs.Embeddings.{Row}
use Rattle.ncq_plan.specs.Exprs.{followed_by, join_rows}
use Rattle.ncq_midfile.specs.Content.{since, up_to, losses, signed_at, rows_at, AreGains, IsContent}
use Rattle.ncq_midfile.specs.Matching.{HaveSlots, has_key}
use Rattle.ncq_midfile.specs.declared.signed.SignedRow.{SignedRow}
use Rattle.ncq_midfile.proofs.Parts.{signed_more, signed_at-append}
use Rattle.ncq_delta.specs.declared.probe.Side.{Side}
use Rattle.ncq_delta.specs.declared.probe.Side.TheVariants.{Left, Right}
use Rattle.ncq_delta.specs.Joins.{with_row, join_change}
use Rattle.ncq_delta.specs.Probes.{slots_on, across, beside, joined_on, changed_on}
use Rattle.ncq_delta.proofs.Agreement.{key_on, joined_are}

-- rows of a file

-- the row read at a place, with its signed row
read_row : (rows : List SignedRow) (place : ℕ) (x : Row) → slice_get (map (λ r. r.row) rows) place ≡ Some x → (r : SignedRow) × (slice_get rows place ≡ Some r) × (Some r.row ≡ Some x)
read_row [] place x e = absurd (none_some x e)
  where
    none_some : (x : Row) → ◌≡◌ {A = Option Row} None (Some x) → ⊥
    none_some x e = cc
read_row (r ∷ rows) zero x e = (r, refl, e)
read_row (r ∷ rows) (suc place) x e = read_row rows place x e

row_is : (y z : Row) → ◌≡◌ {A = Option Row} (Some y) (Some z) → y ≡ z
row_is y z e = cc

-- the rows at one place more, and those from one place on
module _ (places : List ℕ) (i : ℕ) (rows : List SignedRow) (x : Row) (h : i < length places) (at : slice_get (map (λ r. r.row) rows) (get_or places i 0) ≡ Some x) where
  pub row_more : rows_at (take (i + 1) places) rows ≡ rows_at (take i places) rows ++ x ∷ []
  row_more =
      let it = read_row rows (get_or places i 0) x at in
      ap (map (λ r. r.row)) (signed_more places i (get_or places i 0) rows it.0 h refl it.1)
      ∙ map-append (λ r. r.row) (signed_at (take i places) rows) (it.0 ∷ [])
      ∙ ap (λ y. rows_at (take i places) rows ++ y ∷ []) (row_is it.0.row x it.2)

  pub row_left : rows_at (drop i places) rows ≡ x ∷ rows_at (drop (i + 1) places) rows
  row_left =
      let it = read_row rows (get_or places i 0) x at in
      ap (λ ps. rows_at ps rows) (drop_more places i 0 h)
      ∙ ap (λ o. map (λ r. r.row) (cons_option o (signed_at (drop (i + 1) places) rows))) it.1
      ∙ ap (λ y. y ∷ rows_at (drop (i + 1) places) rows) (row_is it.0.row x it.2)

  -- one row more is put behind the others
  pub put_more : {B : Type 0} (F : Row → B) (out new : List B) → out ≡ map F (rows_at (take i places) rows) → new ≡ out ++ F x ∷ [] → new ≡ map F (rows_at (take (i + 1) places) rows)
  put_more F out new old is =
      is ∙ ap (λ ys. ys ++ F x ∷ []) old
      ∙ sym (ap (map F) row_more ∙ map-append F (rows_at (take i places) rows) (x ∷ []))

gains_length : (rows : List SignedRow) (places : List ℕ) → AreGains rows places → length (rows_at places rows) ≡ length places
gains_length rows [] a = refl
gains_length rows (place ∷ places) a =
    ap (λ o. length (map (λ r. r.row) (cons_option o (signed_at places rows)))) a.0.1 ∙ ap suc (gains_length rows places a.1)

filter_kept : (P : SignedRow → Type 0) (b : Bool) (x : SignedRow) (xs : List SignedRow) → P x → AllByRecursion P xs → AllByRecursion P (cond b (x ∷ xs) xs)
filter_kept P true x xs h a = (h, a)
filter_kept P false x xs h a = a

filter_all : (P : SignedRow → Type 0) (test : SignedRow → Bool) (xs : List SignedRow) → AllByRecursion P xs → AllByRecursion P (filter test xs)
filter_all P test [] a = tt
filter_all P test (x ∷ xs) a = filter_kept P (test x) x (filter test xs) a.0 (filter_all P test xs a.1)

-- the rows of a change have the slots that all rows have
pub since_slots : (slots : List ℕ) (n : ℕ) (rows : List SignedRow) → HaveSlots slots rows → HaveSlots slots (since n rows)
since_slots slots n rows h =
    let P : SignedRow → Type 0 = λ r. All (λ slot. slot < length r.row) slots in
    All-from_recursion P (since n rows) (filter_all P (λ r. nat_lt n r.number) rows (recursion_from_All P rows h))

-- two lists with the content at one number have the same counts
pub same_content : (n : ℕ) (rows : List SignedRow) (xs ys : List Row) → IsContent n rows xs → IsContent n rows ys → SameCounts xs ys
same_content n rows xs ys p q f =
    let a = p f in
    let b = q f in
    let c = total_by-append f xs (losses (up_to n rows)) in
    let d = total_by-append f ys (losses (up_to n rows)) in
    omega arith

-- a row joined with those found in the other side

module _ (side : Side) (pairs : List Pair) (row : Row) (slots : List ℕ) (key : List Atom) (rows : List SignedRow) (places : List ℕ) (list : List Row)
    (slots_are : slots ≡ slots_on (across side) pairs) (key_is : key ≡ key_on side pairs row)
    (counts : SameCounts (rows_at places rows) (filter (has_key slots key) list)) where
  pub joined_counts : SameCounts (map (beside side row) (rows_at places rows)) (joined_on side pairs list row)
  joined_counts f =
      counts-map (beside side row) (rows_at places rows) (filter (has_key slots key) list) counts f
      ∙ ap (total_by f) ((λ i. map (beside side row) (filter (has_key (slots_are i) (key_is i)) list)) ∙ joined_are side pairs row list)

  pub joined_length : AreGains rows places → length places ≡ length (joined_on side pairs list row)
  joined_length gains =
      sym (gains_length rows places gains) ∙ sym (length-map (rows_at places rows) (beside side row))
      ∙ counts-length (map (beside side row) (rows_at places rows)) (joined_on side pairs list row) joined_counts

-- items that are mapped to lists, one by one

module _ {A B : Type 0} (f : A → List B) where
  -- what has the counts of one more is added behind the others
  pub counts_pushed : (done : List A) (x : A) (front out new more : List B) → new ≡ out ++ more → SameCounts more (f x) → SameCounts out (front ++ flat_map f done)
      → SameCounts new (front ++ flat_map f (done ++ x ∷ []))
  counts_pushed done x front out new more is one before g =
      ap (total_by g) is ∙ counts-append out (front ++ flat_map f done) more (f x) before one g
      ∙ ap (total_by g) (flat_map_more f front done x)

  pub counts_more : (xs : List A) (i : ℕ) (x : A) (front out new more : List B) → i < length xs → x ≡ get_or xs i x → new ≡ out ++ more → SameCounts more (f x)
      → SameCounts out (front ++ flat_map f (take i xs)) → SameCounts new (front ++ flat_map f (take (i + 1) xs))
  counts_more xs i x front out new more h at is one before =
      subst (λ ys. SameCounts new (front ++ flat_map f ys)) (sym (take_more xs i x h ∙ ap (λ y. take i xs ++ y ∷ []) (sym at)))
      (counts_pushed (take i xs) x front out new more is one before)

  pub cost_more : (xs : List A) (i start before after : ℕ) (x : A) → i < length xs → x ≡ get_or xs i x → before ≤ start + length (flat_map f (take i xs)) → after ≤ before + length (f x)
      → after ≤ start + length (flat_map f (take (i + 1) xs))
  cost_more xs i start before after x h at front one =
      let all = ap length (ap (flat_map f) (take_more xs i x h ∙ ap (λ y. take i xs ++ y ∷ []) (sym at)) ∙ sym (flat_map_more f [] (take i xs) x)) ∙ length-append (flat_map f (take i xs)) (f x) in
      omega arith

  pub cost_most : (xs : List A) (i start before after : ℕ) (x : A) → i < length xs → x ≡ get_or xs i x → before ≤ start + length (flat_map f (take i xs)) → after ≤ before + length (f x)
      → after ≤ start + length (flat_map f xs)
  cost_most xs i start before after x h at front one =
      let most = length-flat_map-take f xs i x h in
      let same = ap (λ y. length (f y)) at in
      omega arith

-- all rows of the left, each joined with the right, are the join
pub joins_are : (pairs : List Pair) (lefts rights : List Row) → flat_map (joined_on Left pairs rights) lefts ≡ join_rows pairs lefts rights
joins_are pairs [] rights = refl
joins_are pairs (left ∷ lefts) rights = λ i. append-nil (followed_by pairs rights left) i ++ joins_are pairs lefts rights i

-- what is joined on each side is the change of the join
module _ (pairs : List Pair) (left_changed right_changed lefts rights : List SignedRow) (before now : List Row) (left_is : lefts ≡ left_changed) (right_is : rights ≡ right_changed) where
  pub change_is : flat_map (changed_on Left pairs before) lefts ++ flat_map (changed_on Right pairs now) rights ≡ join_change pairs left_changed before now right_changed
  change_is = λ i. flat_map (changed_on Left pairs before) (left_is i) ++ flat_map (changed_on Right pairs now) (right_is i)

  pub change_length : length (flat_map (changed_on Left pairs before) lefts) + length (flat_map (changed_on Right pairs now) rights) ≡ length (join_change pairs left_changed before now right_changed)
  change_length = sym (length-append (flat_map (changed_on Left pairs before) lefts) (flat_map (changed_on Right pairs now) rights)) ∙ ap length change_is

pub changed_cost : (side : Side) (pairs : List Pair) (list : List Row) (changed : SignedRow) (before after : ℕ) → after ≤ before + length (joined_on side pairs list changed.row) → after ≤ before + length (changed_on side pairs list changed)
changed_cost side pairs list changed before after = subst (λ n. after ≤ before + n) (sym (length-map (joined_on side pairs list changed.row) (with_row changed)))

-- one row of the left more, joined with the right

module _ (pairs : List Pair) (list : List Row) (places : List ℕ) (i : ℕ) (rows : List SignedRow) (x : Row) (h : i < length places) (at : slice_get (map (λ r. r.row) rows) (get_or places i 0) ≡ Some x) where
  pub whole_more : (out new more : List Row) → new ≡ out ++ more → SameCounts more (joined_on Left pairs list x) → SameCounts out (flat_map (joined_on Left pairs list) (rows_at (take i places) rows))
      → SameCounts new (flat_map (joined_on Left pairs list) (rows_at (take (i + 1) places) rows))
  whole_more out new more is one before =
      subst (λ ys. SameCounts new (flat_map (joined_on Left pairs list) ys)) (sym (row_more places i rows x h at))
      (counts_pushed (joined_on Left pairs list) (rows_at (take i places) rows) x [] out new more is one before)

  pub whole_left : length (flat_map (joined_on Left pairs list) (rows_at (drop i places) rows)) ≡ length (joined_on Left pairs list x) + length (flat_map (joined_on Left pairs list) (rows_at (drop (i + 1) places) rows))
  whole_left =
      ap (λ ys. length (flat_map (joined_on Left pairs list) ys)) (row_left places i rows x h at)
      ∙ length-append (joined_on Left pairs list x) (flat_map (joined_on Left pairs list) (rows_at (drop (i + 1) places) rows))

-- the rows of the left at its places, joined with the right, have the counts of the join
pub whole_is : (pairs : List Pair) (n : ℕ) (own rows : List SignedRow) (places items : List ℕ) (left right : List Row) → items ≡ places → IsContent n own (rows_at places rows) → IsContent n own left
    → SameCounts (flat_map (joined_on Left pairs right) (rows_at items rows)) (join_rows pairs left right)
whole_is pairs n own rows places items left right same at content f =
    ap (λ ps. total_by f (flat_map (joined_on Left pairs right) (rows_at ps rows))) same
    ∙ counts-flat_map (joined_on Left pairs right) (rows_at places rows) left (same_content n own (rows_at places rows) left at content) f
    ∙ ap (total_by f) (joins_are pairs left right)

-- signed rows at places, mapped to lists one by one
module _ {B : Type 0} (f : SignedRow → List B) (places : List ℕ) (i : ℕ) (rows : List SignedRow) (r : SignedRow) (h : i < length places) (at : slice_get rows (get_or places i 0) ≡ Some r) where
  signed_to : signed_at (take (i + 1) places) rows ≡ signed_at (take i places) rows ++ r ∷ []
  signed_to = signed_more places i (get_or places i 0) rows r h refl at

  signed_whole : signed_at places rows ≡ signed_at (take (i + 1) places) rows ++ signed_at (drop (i + 1) places) rows
  signed_whole = ap (λ ps. signed_at ps rows) (sym (take-append-drop (i + 1) places)) ∙ signed_at-append (take (i + 1) places) (drop (i + 1) places) rows

  pub counts_at_more : (front out new more : List B) → new ≡ out ++ more → SameCounts more (f r) → SameCounts out (front ++ flat_map f (signed_at (take i places) rows))
      → SameCounts new (front ++ flat_map f (signed_at (take (i + 1) places) rows))
  counts_at_more front out new more is one before =
      subst (λ ys. SameCounts new (front ++ flat_map f ys)) (sym signed_to) (counts_pushed f (signed_at (take i places) rows) r front out new more is one before)

  pub cost_at_more : (start before after : ℕ) → before ≤ start + length (flat_map f (signed_at (take i places) rows)) → after ≤ before + length (f r)
      → after ≤ start + length (flat_map f (signed_at (take (i + 1) places) rows))
  cost_at_more start before after front one =
      let all = ap length (ap (flat_map f) signed_to ∙ sym (flat_map_more f [] (signed_at (take i places) rows) r)) ∙ length-append (flat_map f (signed_at (take i places) rows)) (f r) in
      omega arith

  pub cost_at_most : (start before after : ℕ) → before ≤ start + length (flat_map f (signed_at (take i places) rows)) → after ≤ before + length (f r)
      → after ≤ start + length (flat_map f (signed_at places rows))
  cost_at_most start before after front one =
      let some = cost_at_more start before after front one in
      let all = ap (λ ys. length (flat_map f ys)) signed_whole ∙ flat_length (signed_at (take (i + 1) places) rows) (signed_at (drop (i + 1) places) rows) in
      omega arith
    where
      flat_length : (xs ys : List SignedRow) → length (flat_map f (xs ++ ys)) ≡ length (flat_map f xs) + length (flat_map f ys)
      flat_length [] ys = omega arith
      flat_length (x ∷ xs) ys =
          let a = length-append (f x) (flat_map f (xs ++ ys)) in
          let b = length-append (f x) (flat_map f xs) in
          let c = flat_length xs ys in
          omega arith

pub if_ok : {T E : Type 0} (r : Result T E) (P Q : T → Type 0) → IfOk r P → ((x : T) → P x → Q x) → IfOk r Q
if_ok (Ok x) P Q p f = f x p
if_ok (Err e) P Q p f = tt
