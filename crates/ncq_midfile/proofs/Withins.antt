-- The rows of an interval: where they stand, and that they are in order.
use Rattle.std.proofs.Common.{◌≡◌, ℕ, ◌+◌, ◌<◌, ◌≤◌, Bool, true, false, cond, ◌&&◌, ◌||◌, List, [], ◌∷◌, ◌++◌, filter, length, get_or, take, drop, take-append-drop, nat_le, nat_lt, refl, sym, ◌∙◌, ap, arith, slice_get, Some, append_assoc, Result, Ok, Err, IfOk}
use Rattle.std.specs.List.{list_any, range_with_len}
use Rattle.std.proofs.lemmas.List.{get_or_past, drop_more, length_push, take_more, take_all, take-append-le, length-drop}
use Rattle.ncq_base.specs.Intervals.{in_interval}
use Rattle.ncq_base.specs.declared.interval.Interval.{Interval}
use Rattle.ncq_row.specs.Values.{value_atom}
use Rattle.ncq_row.specs.declared.value.Value.TheVariants.{Text}
use Rattle.ncq_midfile.specs.Content.{Row, up_to, since, signed_at}
use Rattle.ncq_midfile.specs.Files.{AreNumbered}
use Rattle.ncq_midfile.specs.Matching.{places_where, passes, chosen}
use Rattle.ncq_midfile.specs.Ranged.{is_early}
use Rattle.ncq_midfile.specs.Views.{is_within, of_rows}
use Rattle.ncq_midfile.specs.declared.signed.SignedRow.{SignedRow}
use Rattle.ncq_midfile.proofs.Matches.{wanted_signed, wanted_behind, found_behind}
use Rattle.ncq_midfile.proofs.Parts.{length_front, range_signed}

-- behind the end of a row is no number
pub none_beyond : (slot : ℕ) (interval : Interval) (row : Row) → length row ≤ slot → is_within slot interval row ≡ false
none_beyond slot interval row h = ap (λ v. in_interval interval (value_atom v)) (get_or_past row slot (Text []) h)

-- those that pass two tests
module _ {A : Type 0} (p q : A → Bool) where
  pub filter_both : (xs : List A) → filter (λ x. q x && p x) xs ≡ filter p (filter q xs)
  filter_both [] = refl
  filter_both (x ∷ xs) =
      elim (q x) as (λ b. cond (b && p x) (x ∷ filter (λ x. q x && p x) xs) (filter (λ x. q x && p x) xs) ≡ filter p (cond b (x ∷ filter q xs) (filter q xs))) [
        | true ↦ ap (λ ys. cond (p x) (x ∷ ys) ys) (filter_both xs)
        | false ↦ filter_both xs
      ]

either_way : {A : Type 0} (p q : A → Bool) (xs : List A) → filter (λ x. q x && p x) xs ≡ filter (λ x. p x && q x) xs
either_way p q [] = refl
either_way p q (x ∷ xs) = (λ i. cond (turned (q x) (p x) i) (x ∷ either_way p q xs i) (either_way p q xs i))
  where
    turned : (s t : Bool) → (s && t) ≡ (t && s)
    turned true true = refl
    turned true false = refl
    turned false true = refl
    turned false false = refl

pub filter_swap : {A : Type 0} (p q : A → Bool) (xs : List A) → filter p (filter q xs) ≡ filter q (filter p xs)
filter_swap p q xs = sym (filter_both p q xs) ∙ either_way p q xs ∙ filter_both q p xs

-- rows of a test up to a number, and above it
pub up_to_of : (n : ℕ) (test : Row → Bool) (rows : List SignedRow) → up_to n (of_rows test rows) ≡ of_rows test (up_to n rows)
up_to_of n test rows = filter_swap (λ r. nat_le r.number n) (λ r. test r.row) rows

pub since_of : (n : ℕ) (test : Row → Bool) (rows : List SignedRow) → since n (of_rows test rows) ≡ of_rows test (since n rows)
since_of n test rows = filter_swap (λ r. nat_lt n r.number) (λ r. test r.row) rows

-- numbers that never fall do not fall where rows are left out
pub numbered_from : (low high : ℕ) (rows : List SignedRow) → low ≤ high → AreNumbered high rows → AreNumbered low rows
numbered_from low high [] h a = tt
numbered_from low high (r ∷ rows) h a = let b = a.0 in (omega arith, a.1)

pub numbered_of : (test : SignedRow → Bool) (low : ℕ) (rows : List SignedRow) → AreNumbered low rows → AreNumbered low (filter test rows)
numbered_of test low [] a = tt
numbered_of test low (r ∷ rows) a =
    elim (test r) as (λ b. AreNumbered low (cond b (r ∷ filter test rows) (filter test rows))) [
      | true ↦ (a.0, numbered_of test r.number rows a.1)
      | false ↦ numbered_from low r.number (filter test rows) a.0 (numbered_of test r.number rows a.1)
    ]

-- the rows of an interval up to a number
pub early_of : (slot : ℕ) (interval : Interval) (n : ℕ) (rows : List SignedRow) → filter (is_early slot interval n) rows ≡ up_to n (of_rows (is_within slot interval) rows)
early_of slot interval n rows = filter_both (λ r. is_within slot interval r.row) (λ r. nat_le r.number n) rows ∙ sym (up_to_of n (is_within slot interval) rows)

-- the rows at the places of an interval's rows up to a number
pub early_signed : (slot : ℕ) (interval : Interval) (n : ℕ) (rows : List SignedRow)
    → signed_at (places_where (is_early slot interval n) 0 rows) rows ≡ up_to n (of_rows (is_within slot interval) rows)
early_signed slot interval n rows = wanted_signed (is_early slot interval n) rows ∙ early_of slot interval n rows

-- the rows at the places from one on
pub from_signed : (test : SignedRow → Bool) (from : ℕ) (rows : List SignedRow) → from ≤ length rows → signed_at (places_where test from (drop from rows)) rows ≡ filter test (drop from rows)
from_signed test from rows h =
    let long : length (take from rows) ≡ from = length_front from rows h in
    let whole : take from rows ++ drop from rows ≡ rows = take-append-drop from rows in
    (λ i. signed_at (places_where test (sym long i) (drop from rows)) (sym whole i)) ∙ wanted_behind test (take from rows) (drop from rows)

-- of the places of one test those that pass another
chosen_by : (s t : SignedRow → Bool) (b : Bool) (n : ℕ) (y : SignedRow) (rows : List SignedRow) (ps qs : List ℕ) → slice_get rows n ≡ Some y → chosen t rows ps ≡ qs
    → chosen t rows (cond b (n ∷ ps) ps) ≡ cond (b && t y) (n ∷ qs) qs
chosen_by s t true n y rows ps qs at e = (λ i. cond (passes t (at i)) (n ∷ chosen t rows ps) (chosen t rows ps)) ∙ ap (λ us. cond (t y) (n ∷ us) us) e
chosen_by s t false n y rows ps qs at e = e

chosen_behind : (s t : SignedRow → Bool) (front ys : List SignedRow) → chosen t (front ++ ys) (places_where s (length front) ys) ≡ places_where (λ r. s r && t r) (length front) ys
chosen_behind s t front [] = refl
chosen_behind s t front (y ∷ ys) =
    let next : length front + 1 ≡ length (front ++ y ∷ []) = sym (length_push front y) in
    let joined : front ++ y ∷ ys ≡ (front ++ y ∷ []) ++ ys = sym (append_assoc front (y ∷ []) ys) in
    let rest : chosen t (front ++ y ∷ ys) (places_where s (length front + 1) ys) ≡ places_where (λ r. s r && t r) (length front + 1) ys =
    (λ i. chosen t (joined i) (places_where s (next i) ys)) ∙ chosen_behind s t (front ++ y ∷ []) ys ∙ ap (λ k. places_where (λ r. s r && t r) k ys) (sym next) in
    chosen_by s t (s y) (length front) y (front ++ y ∷ ys) (places_where s (length front + 1) ys) (places_where (λ r. s r && t r) (length front + 1) ys) (found_behind front y ys) rest

pub chosen_both : (s t : SignedRow → Bool) (rows : List SignedRow) → chosen t rows (places_where s 0 rows) ≡ places_where (λ r. s r && t r) 0 rows
chosen_both s t rows = chosen_behind s t [] rows

-- one interval more that does not hold the row, or does
pub any_more : {A : Type 0} (test : A → Bool) (xs : List A) (i : ℕ) (d : A) → i < length xs → false ≡ test (get_or xs i d) → list_any test (drop (i + 1) xs) ≡ list_any test (drop i xs)
any_more test xs i d h none =
    sym (ap (list_any test) (drop_more xs i d h) ∙ ap (λ b. b || list_any test (drop (i + 1) xs)) (sym none))

pub any_here : {A : Type 0} (test : A → Bool) (xs : List A) (i : ℕ) (d : A) → i < length xs → true ≡ test (get_or xs i d) → true ≡ list_any test (drop i xs)
any_here test xs i d h met =
    sym (ap (list_any test) (drop_more xs i d h) ∙ ap (λ b. b || list_any test (drop (i + 1) xs)) (sym met))

pub filter_append : {A : Type 0} (test : A → Bool) (xs ys : List A) → filter test (xs ++ ys) ≡ filter test xs ++ filter test ys
filter_append test [] ys = refl
filter_append test (x ∷ xs) ys =
    elim (test x) as (λ b. cond b (x ∷ filter test (xs ++ ys)) (filter test (xs ++ ys)) ≡ cond b (x ∷ filter test xs) (filter test xs) ++ filter test ys) [
      | true ↦ ap (λ zs. x ∷ zs) (filter_append test xs ys)
      | false ↦ filter_append test xs ys
    ]

-- the rows in front that all pass the test stay in front
pub front_stays : (test : SignedRow → Bool) (k : ℕ) (rows : List SignedRow) → k ≤ length rows → filter test (take k rows) ≡ take k rows → take k (filter test rows) ≡ take k rows
front_stays test k rows h all =
    let whole : take k rows ++ drop k rows ≡ rows = take-append-drop k rows in
    let long : length (take k rows) ≡ k = length_front k rows h in
    let split : filter test rows ≡ take k rows ++ filter test (drop k rows) = ap (filter test) (sym whole) ∙ filter_append test (take k rows) (drop k rows) ∙ ap (λ zs. zs ++ filter test (drop k rows)) all in
    ap (take k) split ∙ take_front (take k rows) (filter test (drop k rows)) k long
  where
    take_front : (xs ys : List SignedRow) (n : ℕ) → length xs ≡ n → take n (xs ++ ys) ≡ xs
    take_front xs ys n e = take-append-le n xs ys (omega arith) ∙ take_all n xs (omega arith)

-- the rows in front that pass the test are one more
pub held_more : (test : SignedRow → Bool) (rows : List SignedRow) (i : ℕ) (r : SignedRow) → i < length rows → r ≡ get_or rows i r → test r ≡ true
    → filter test (take i rows) ≡ take i rows → filter test (take (i + 1) rows) ≡ take (i + 1) rows
held_more test rows i r h is met all =
    let more : take (i + 1) rows ≡ take i rows ++ r ∷ [] = take_more rows i r h ∙ ap (λ x. take i rows ++ x ∷ []) (sym is) in
    ap (filter test) more ∙ filter_append test (take i rows) (r ∷ [])
    ∙ (λ k. all k ++ cond (met k) (r ∷ []) []) ∙ sym more

-- what follows of an Ok
pub if_ok : {T E : Type 0} (r : Result T E) (P Q : T → Type 0) → IfOk r P → ((x : T) → P x → Q x) → IfOk r Q
if_ok (Ok x) P Q p f = f x p
if_ok (Err e) P Q p f = tt

-- the rows at the last places
pub back_signed : (from count : ℕ) (rows : List SignedRow) → from + count ≡ length rows → signed_at (range_with_len from count) rows ≡ drop from rows
back_signed from count rows e =
    range_signed from count rows (omega arith)
    ∙ take_all count (drop from rows) (let l = length-drop from rows in omega arith)

-- the rows at the places where two tests pass
pub both_signed : (s t : SignedRow → Bool) (rows : List SignedRow) → signed_at (places_where (λ r. s r && t r) 0 rows) rows ≡ filter s (filter t rows)
both_signed s t rows = wanted_signed (λ r. s r && t r) rows ∙ filter_both t s rows ∙ filter_swap t s rows
