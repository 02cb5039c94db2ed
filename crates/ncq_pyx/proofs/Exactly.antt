-- At most one answer is right.
use Rattle.std.proofs.Common.{◌≡◌, inl, inr, ℕ, ◌+◌, ◌<◌, ◌≤◌, List, ◌++◌, Some, Result, Ok, Err, length, take, drop, ap, sym, ◌∙◌, subst, append_assoc, arith}
use Rattle.std.proofs.lemmas.List.{take-append-drop, take-take}
use Rattle.ncq_pyx.specs.declared.item.Item.{Item}
use Rattle.ncq_pyx.specs.declared.error.PyxError.{PyxError}
use Rattle.ncq_pyx.specs.declared.error.PyxError.TheVariants.{BadLine, TooDeep, OutOfMemory}
use Rattle.ncq_pyx.specs.Spells.{CanGoOn, IsBlock, IsFault, IsBadLine, IsTooDeep, EndsAt, Reads, Gives, IsAnswer, spelled}

-- what can go on could go on before
can_before : (limit : ℕ) (lines : List (List ℕ)) (k : ℕ) → CanGoOn limit lines → CanGoOn limit (take k lines)
can_before limit lines k go =
    (drop k lines ++ go.0, (go.1.0, ap (spelled limit) (sym (append_assoc (take k lines) (drop k lines) go.0) ∙ ap (λ l. l ++ go.0) (take-append-drop k lines)) ∙ go.1.1))

block_goes : (limit : ℕ) (lines : List (List ℕ)) (k : ℕ) → IsBlock limit lines → CanGoOn limit (take k lines)
block_goes limit lines k block = (drop k lines, (block.0, ap (spelled limit) (take-append-drop k lines) ∙ block.1))

block_no_fault : (limit : ℕ) (lines : List (List ℕ)) (n : ℕ) → IsBlock limit lines → IsFault limit lines n → ⊥
block_no_fault limit lines n block fault = elim fault.bad [
  | inl bad ↦ bad.1 (block_goes limit lines (fault.before + 1) block)
  | inr bad ↦ bad.1 block
]

not_later : (limit : ℕ) (lines : List (List ℕ)) (k j : ℕ) → k < j → EndsAt limit lines k → EndsAt limit lines j → CanGoOn limit (take j lines) → ⊥
not_later limit lines k j lt (inl bad) ends go =
    bad.1 (subst (λ l. CanGoOn limit l) (take-take (k + 1) j lines (omega arith)) (can_before limit (take j lines) (k + 1) go))
not_later limit lines k j lt (inr bad) (inl ends) go = omega (arith, bad.0, ends.0)
not_later limit lines k j lt (inr bad) (inr ends) go = omega (arith, bad.0, ends.0)

one_fault : (limit : ℕ) (lines : List (List ℕ)) (n m : ℕ) → IsFault limit lines n → IsFault limit lines m → n ≡ m
one_fault limit lines n m a b =
    let first : (a.before < b.before → ⊥) = λ lt. not_later limit lines a.before b.before lt a.bad b.bad b.good in
    let second : (b.before < a.before → ⊥) = λ lt. not_later limit lines b.before a.before lt b.bad a.bad a.good in
    omega (arith, a.next, b.next, first, second)

deep_or_bad : (limit : ℕ) (lines : List (List ℕ)) (n m : ℕ) → IsTooDeep limit lines n → IsBadLine limit lines m → ⊥
deep_or_bad limit lines n m deep bad =
    let same = one_fault limit lines n m deep.fault bad.fault in
    bad.other (subst (λ v. v ≤ length lines) same deep.within) (subst (λ v. CanGoOn (limit + 1) (take v lines)) same deep.deeper)

-- what is answered, if it is right, is what was to be answered
pub one_answer : (limit : ℕ) (lines : List (List ℕ)) (a b : Result (List Item) PyxError) → Reads limit lines a → Reads limit lines b → IsAnswer b → Gives a b
one_answer limit lines (Ok x) (Ok y) a b is = let e : Some x ≡ Some y = sym a ∙ b in let f : x ≡ y = cc in ap Ok f
one_answer limit lines (Ok x) (Err (BadLine n)) a b is = absurd (block_no_fault limit lines n (x, a) b.fault)
one_answer limit lines (Ok x) (Err (TooDeep n)) a b is = absurd (block_no_fault limit lines n (x, a) b.fault)
one_answer limit lines (Ok x) (Err OutOfMemory) a b is = absurd is
one_answer limit lines (Err (BadLine n)) (Ok y) a b is = absurd (block_no_fault limit lines n (y, b) a.fault)
one_answer limit lines (Err (BadLine n)) (Err (BadLine m)) a b is = ap (λ k. Err (BadLine k)) (one_fault limit lines n m a.fault b.fault)
one_answer limit lines (Err (BadLine n)) (Err (TooDeep m)) a b is = absurd (deep_or_bad limit lines m n b a)
one_answer limit lines (Err (BadLine n)) (Err OutOfMemory) a b is = absurd is
one_answer limit lines (Err (TooDeep n)) (Ok y) a b is = absurd (block_no_fault limit lines n (y, b) a.fault)
one_answer limit lines (Err (TooDeep n)) (Err (BadLine m)) a b is = absurd (deep_or_bad limit lines n m a b)
one_answer limit lines (Err (TooDeep n)) (Err (TooDeep m)) a b is = ap (λ k. Err (TooDeep k)) (one_fault limit lines n m a.fault b.fault)
one_answer limit lines (Err (TooDeep n)) (Err OutOfMemory) a b is = absurd is
one_answer limit lines (Err OutOfMemory) b h i is = tt
