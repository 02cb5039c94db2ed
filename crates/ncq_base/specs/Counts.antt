-- How often items stand in lists.
use Rattle.std.specs.Prelude.{◌≡◌, ℕ, ◌+◌, List, [], ◌∷◌}

-- the sum of f over the items
abbrev pub total_by : {A : Type 0} → (A → ℕ) → List A → ℕ
total_by f [] = 0
total_by f (x ∷ xs) = f x + total_by f xs

-- each item stands equally often in both: whatever single items weigh, the two lists weigh the same
abbrev pub SameCounts : {A : Type 0} → List A → List A → Type 0
SameCounts {A} xs ys = (f : A → ℕ) → total_by f xs ≡ total_by f ys
