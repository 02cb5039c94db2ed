-- Sums that stop at a greatest number.
use Rattle.std.proofs.Common.{◌≡◌, ℕ, ◌+◌, ◌≤◌, List, [], ◌∷◌, min, ap, arith}
use Rattle.ncq_base.specs.Counts.{total_by}

module _ {A : Type 0} (f : A → ℕ) (most : ℕ) where
  -- what is added so far and what is left make the whole
  pub record AddsUp (count : ℕ) (left all : List A) : Type 0 where
    pub within : count ≤ most
    pub whole : min most (count + total_by f left) ≡ min most (total_by f all)

  pub none_so_far : (left all : List A) → left ≡ all → AddsUp 0 left all
  none_so_far left all is = let same : total_by f left ≡ total_by f all = ap (total_by f) is in record { within = omega arith; whole = omega arith }

  pub one_more : (count new : ℕ) (item : A) (left next all : List A) → new ≡ min (count + f item) most → left ≡ item ∷ next → AddsUp count left all → AddsUp new next all
  one_more count new item left next all sum is adds =
      let step : total_by f left ≡ f item + total_by f next = ap (total_by f) is in
      let whole = adds.whole in
      record { within = omega arith; whole = omega arith }

  pub none_left : (count : ℕ) (left all : List A) → left ≡ [] → AddsUp count left all → count ≡ min most (total_by f all)
  none_left count left all is adds =
      let none : total_by f left ≡ 0 = ap (total_by f) is in
      let whole = adds.whole in
      let within = adds.within in
      omega arith

-- two such sums together
pub both_sums : (most own shared : ℕ) → min (min most own + min most shared) most ≡ min most (own + shared)
both_sums most own shared = omega arith
