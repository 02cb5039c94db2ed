-- What holds of each item holds of those that are left when some are taken out.
use Rattle.std.proofs.Common.{ℕ, zero, suc, ◌-◌, List, [], ◌∷◌, length, set, get_or, arith}
use Rattle.std.specs.List.{AllByRecursion}
use Rattle.std.proofs.lemmas.List.Elements.{All-from_recursion}
use Rattle.ncq_midfile.specs.Pairs.{without, taken_out}
use Rattle.ncq_midfile.proofs.Parts.{all_take}

module _ {A : Type 0} (P : A → Type 0) where
  set_each : (xs : List A) (i : ℕ) (y : A) → P y → AllByRecursion P xs → AllByRecursion P (set xs i y)
  set_each [] i y h a = tt
  set_each (x ∷ xs) zero y h a = (h, a.1)
  set_each (x ∷ xs) (suc i) y h a = (a.0, set_each xs i y h a.1)

  without_each : (place : ℕ) (xs : List A) → AllByRecursion P xs → AllByRecursion P (without place xs)
  without_each place [] a = tt
  without_each place (x ∷ xs) a =
      let last = length (x ∷ xs) - 1 in
      let y = get_or (x ∷ xs) last x in
      all_take P last (set (x ∷ xs) place y) (set_each (x ∷ xs) place y (All-from_recursion P (x ∷ xs) a last x (omega arith)) a)

  pub taken_each : (places : List ℕ) (xs : List A) → AllByRecursion P xs → AllByRecursion P (taken_out places xs)
  taken_each [] xs a = a
  taken_each (place ∷ places) xs a = without_each place (taken_out places xs) (taken_each places xs a)
