-- At most one answer to the lines of a batch is right.
use Rattle.std.proofs.Common.{◌≡◌, inl, inr, ℕ, ◌+◌, ◌<◌, ◌≤◌, List, ◌++◌, length, take, drop, refl, ap, sym, ◌∙◌, subst, append_assoc, arith}
use Rattle.std.specs.Prelude.{Result, Ok, Err}
use Rattle.std.proofs.lemmas.List.{take-append-drop, take-take}
use Rattle.ncq_pyx.specs.declared.error.PyxError.{PyxError}
use Rattle.ncq_pyx.specs.declared.error.PyxError.TheVariants.{BadLine, TooDeep, OutOfMemory}
use Rattle.ncq_source.specs.declared.change.Section.{Section}
use Rattle.ncq_script.specs.Batches.{batch_of}
use Rattle.ncq_script.specs.SpellsBatch.{BatchEndsAt, CanBeBatch, IsBadBatch, IsBatch, IsBatchFault, IsTooDeepBatch, ReadsBatch, SpellsBatch}
use Rattle.ncq_script.proofs.BatchFaults.{batch_refused}
use Rattle.ncq_script.proofs.SpellLaws.{read_is_spelled, spelled_is_read}

module _ (limit : ℕ) (lines : List (List ℕ)) where
  pub one_list : (a b : List Section) → SpellsBatch limit lines a → SpellsBatch limit lines b → a ≡ b
  one_list a b x y = let e = sym (spelled_is_read limit lines a x) ∙ spelled_is_read limit lines b y in cc

  -- what can go on could go on before
  can_before : (k j : ℕ) → k ≤ j → CanBeBatch limit (take j lines) → CanBeBatch limit (take k lines)
  can_before k j le can =
      let shorter = take-take k j lines le in
      let first = take j lines in
      let whole : first ++ can.0 ≡ take k first ++ (drop k first ++ can.0) =
      ap (λ (ls : List (List ℕ)). ls ++ can.0) (sym (take-append-drop k first)) ∙ append_assoc (take k first) (drop k first) can.0 in
      subst (CanBeBatch limit) shorter (drop k first ++ can.0, (can.1.0, subst (λ (ls : List (List ℕ)). SpellsBatch limit ls can.1.0) whole can.1.1))

  batch_goes : (k : ℕ) → IsBatch limit lines → CanBeBatch limit (take k lines)
  batch_goes k batch = (drop k lines, (batch.0, subst (λ (ls : List (List ℕ)). SpellsBatch limit ls batch.0) (sym (take-append-drop k lines)) batch.1))

  no_fault : (n : ℕ) → IsBatch limit lines → IsBatchFault limit lines n → ⊥
  no_fault n batch fault = elim fault.bad [
    | inl ends ↦ ends.1 (batch_goes (fault.before + 1) batch)
    | inr ends ↦ ends.1 batch
  ]

  not_later : (k j : ℕ) → k < j → BatchEndsAt limit lines k → BatchEndsAt limit lines j → CanBeBatch limit (take j lines) → ⊥
  not_later k j lt (inl a) b can = a.1 (can_before (k + 1) j (omega arith) can)
  not_later k j lt (inr a) (inl b) can = omega (arith, a.0, b.0)
  not_later k j lt (inr a) (inr b) can = omega (arith, a.0, b.0)

  one_fault : (n m : ℕ) → IsBatchFault limit lines n → IsBatchFault limit lines m → n ≡ m
  one_fault n m a b =
      let first : (a.before < b.before → ⊥) = λ lt. not_later a.before b.before lt a.bad b.bad b.good in
      let second : (b.before < a.before → ⊥) = λ lt. not_later b.before a.before lt b.bad a.bad a.good in
      omega (arith, a.next, b.next, first, second)

  deep_or_bad : (n m : ℕ) → IsTooDeepBatch limit lines n → IsBadBatch limit lines m → ⊥
  deep_or_bad n m deep bad =
      let same = one_fault n m deep.fault bad.fault in
      bad.other (subst (λ (v : ℕ). v ≤ length lines) same deep.within) (subst (λ (v : ℕ). CanBeBatch (limit + 1) (take v lines)) same deep.deeper)

  one_answer : (a b : Result (List Section) PyxError) → ReadsBatch limit lines a → ReadsBatch limit lines b → a ≡ b
  one_answer (Ok x) (Ok y) a b = ap Ok (one_list x y a b)
  one_answer (Ok x) (Err (BadLine n)) a b = absurd (no_fault n (x, a) b.fault)
  one_answer (Ok x) (Err (TooDeep n)) a b = absurd (no_fault n (x, a) b.fault)
  one_answer (Ok x) (Err OutOfMemory) a b = absurd b
  one_answer (Err (BadLine n)) (Ok y) a b = absurd (no_fault n (y, b) a.fault)
  one_answer (Err (BadLine n)) (Err (BadLine m)) a b = ap (λ (k : ℕ). Err (BadLine k)) (one_fault n m a.fault b.fault)
  one_answer (Err (BadLine n)) (Err (TooDeep m)) a b = absurd (deep_or_bad m n b a)
  one_answer (Err (BadLine n)) (Err OutOfMemory) a b = absurd b
  one_answer (Err (TooDeep n)) (Ok y) a b = absurd (no_fault n (y, b) a.fault)
  one_answer (Err (TooDeep n)) (Err (BadLine m)) a b = absurd (deep_or_bad n m a b)
  one_answer (Err (TooDeep n)) (Err (TooDeep m)) a b = ap (λ (k : ℕ). Err (TooDeep k)) (one_fault n m a.fault b.fault)
  one_answer (Err (TooDeep n)) (Err OutOfMemory) a b = absurd b
  one_answer (Err OutOfMemory) other a b = absurd a

  -- what is read is right
  pub reads : (answer : Result (List Section) PyxError) → batch_of limit lines ≡ answer → ReadsBatch limit lines answer
  reads (Ok sections) e = read_is_spelled limit lines sections e
  reads (Err why) e = batch_refused limit lines why e

  -- and nothing else is
  pub only : (answer : Result (List Section) PyxError) → ReadsBatch limit lines answer → batch_of limit lines ≡ answer
  only answer right = one_answer (batch_of limit lines) answer (reads (batch_of limit lines) refl) right
