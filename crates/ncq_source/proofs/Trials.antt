-- Entries that are prepared one by one.
use Rattle.std.proofs.Math.Seq.{drop-cons}
use Rattle.std.proofs.Common.{◌≡◌, ℕ, zero, suc, drop, get_or, ◌+◌, ◌<◌, ◌≤◌, List, [], ◌∷◌, ◌++◌, length, Err, refl, sym, ap, ◌∙◌, subst, arith, length-append}
use Rattle.std.specs.declared.result.Result.{Result}
use Rattle.ncq_source.specs.declared.change.ChangeError.{ChangeError}
use Rattle.ncq_source.specs.declared.change.ChangeError.TheVariants.{BadKey, NoSuchKey, NoSource, OutOfMemory}
use Rattle.ncq_source.specs.declared.change.Entry.{Entry}
use Rattle.ncq_pyx.specs.declared.item.Item.{Item}
use Rattle.ncq_source.specs.declared.key.Key.{Key}
use Rattle.ncq_source.specs.Held.{Kept, with_at}
use Rattle.ncq_source.specs.Changes.{Trial, prepared, entry_of, front, behind, next, Tells, store_after}
use Rattle.ncq_source.specs.Changes.Trial.{Good, NoKey, NotThere}

pub front_good : (es : List Entry) → front es (Good []) ≡ Good es
front_good [] = refl
front_good (e ∷ es) = ap (behind e) (front_good es)

pub front_push : (es : List Entry) (e : Entry) (t : Trial (List Entry)) → front (es ++ e ∷ []) t ≡ front es (behind e t)
front_push [] e t = refl
front_push (x ∷ es) e t = ap (behind x) (front_push es e t)

front_no_key : (es : List Entry) (n : ℕ) → front es (NoKey n) ≡ NoKey n
front_no_key [] n = refl
front_no_key (e ∷ es) n = ap (behind e) (front_no_key es n)

front_not_there : (es : List Entry) (n : ℕ) → front es (NotThere n) ≡ NotThere n
front_not_there [] n = refl
front_not_there (e ∷ es) n = ap (behind e) (front_not_there es n)

-- the elements matter only where an item is left to see them
pub seen_by : (rule : Key) (items : List Item) (p q : ℕ) (a b : Kept) → p ≡ q → (0 < length items → a ≡ b) → prepared rule p a items ≡ prepared rule q b items
seen_by rule [] p q a b count sees = refl
seen_by rule (item ∷ items) p q a b count sees = let same : a ≡ b = sees (omega arith) in λ i. prepared rule (count i) (same i) (item ∷ items)

longer : (before : ℕ) (es : List Entry) (e : Entry) → before + length (es ++ e ∷ []) + 1 ≡ before + length es + 1 + 1
longer before es e = let h : length (es ++ e ∷ []) ≡ length es + 1 = length-append es (e ∷ []) in omega (arith, h)

module _ (rule : Key) (before : ℕ) (kept : Kept) (item : Item) (items : List Item) (es : List Entry) (whole : Trial (List Entry))
    (left : front es (prepared rule (before + length es + 1) kept (item ∷ items)) ≡ whole) where
  abbrev more : Entry → Trial (List Entry)
  more e = prepared rule (before + length es + 1 + 1) (with_at kept e.key e.after) items

  -- one more entry
  pub one_more : (e : Entry) (ahead : Kept) → entry_of rule (before + length es + 1) kept item ≡ Good e → (0 < length items → ahead ≡ with_at kept e.key e.after)
      → front (es ++ e ∷ []) (prepared rule (before + length (es ++ e ∷ []) + 1) ahead items) ≡ whole
  one_more e ahead good sees =
      ap (front (es ++ e ∷ [])) (seen_by rule items _ (before + length es + 1 + 1) ahead _ (longer before es e) sees)
      ∙ front_push es e (more e) ∙ subst (λ t. front es (next t more) ≡ whole) good left

  -- an item that cannot be applied decides
  pub decides : (r : Result Entry ChangeError) (s : Result (List Entry) ChangeError) (e : ChangeError) → r ≡ Err e → s ≡ Err e → Tells r (entry_of rule (before + length es + 1) kept item) → Tells s whole
  decides r s e was is tells = subst (λ (x : Result (List Entry) ChangeError). Tells x whole) (sym is) (by e (subst (λ (x : Result Entry ChangeError). Tells x (entry_of rule (before + length es + 1) kept item)) was tells))
    where
      by : (e : ChangeError) → Tells {A = Entry} (Err e) (entry_of rule (before + length es + 1) kept item) → Tells {A = List Entry} (Err e) whole
      by NoSource h = h
      by (BadKey n) h = sym (subst (λ t. front es (next t more) ≡ whole) h left) ∙ front_no_key es n
      by (NoSuchKey n) h = sym (subst (λ t. front es (next t more) ≡ whole) h left) ∙ front_not_there es n
      by OutOfMemory h = tt

pub at_end : (rule : Key) (position : ℕ) (kept : Kept) (items : List Item) (es : List Entry) → length items ≡ 0 → front es (prepared rule position kept items) ≡ Good es
at_end rule position kept [] es none = front_good es
at_end rule position kept (item ∷ items) es none = absurd (omega (arith, none))

-- and the elements are what they were
pub at_last : (rule : Key) (kept : Kept) (items : List Item) → length items ≡ 0 → store_after rule kept items ≡ kept
at_last rule kept [] none = refl
at_last rule kept (item ∷ items) none = absurd (omega (arith, none))

-- the items from a place on, where one stands
pub from_here : {A : Type 0} → (xs : List A) (at : ℕ) (x : A) → at < length xs → x ≡ get_or xs at x → x ∷ drop (at + 1) xs ≡ drop at xs
from_here xs at x less is =
    let next : at + 1 ≡ suc at = omega arith in
    ap (λ n. x ∷ drop n xs) next ∙ sym (drop-cons xs at x less ∙ ap (λ y. y ∷ drop (suc at) xs) (sym is))

-- some are left behind a place only where it is not the last
pub some_left : {A : Type 0} → (xs : List A) (n : ℕ) → 0 < length (drop n xs) → n < length xs
some_left [] zero h = h
some_left [] (suc n) h = absurd (omega (arith, h))
some_left (x ∷ xs) zero h = omega arith
some_left (x ∷ xs) (suc n) h = let l = some_left xs n h in omega (arith, l)

pub nothing_left : {A : Type 0} → (xs : List A) (n : ℕ) → length xs ≤ n → length (drop n xs) ≡ 0
nothing_left [] zero h = refl
nothing_left [] (suc n) h = refl
nothing_left (x ∷ xs) zero h = absurd (omega (arith, h))
nothing_left (x ∷ xs) (suc n) h = nothing_left xs n (let l : length xs ≤ n = omega (arith, h) in l)
