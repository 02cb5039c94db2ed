-- Bounds of a fold that are below the bases of files, and what rows are left by it.
use Rattle.std.proofs.Common.{◌≡◌, ℕ, ◌≤◌, ◌++◌, true, List, [], ◌∷◌, length, refl, sym, ap, subst, arith}
use Rattle.std.specs.Prelude.{suc}
use Rattle.ncq_base.specs.Counts.{total_by}
use Rattle.ncq_base.specs.declared.interval.Interval.{Interval}
use Rattle.ncq_row.specs.Embeddings.{Row}
use Rattle.ncq_plan.specs.Meets.{is_within}
use Rattle.ncq_midfile.specs.Content.{IsContent}
use Rattle.ncq_midfile.specs.Folds.{AreBoundBy, IsFolded}
use Rattle.ncq_midfile.specs.Views.{of_rows}
use Rattle.ncq_midfile.specs.declared.signed.SignedRow.{SignedRow}
use Rattle.ncq_midfile.proofs.FoldLaws.{folded_content}
use Rattle.ncq_shelf.specs.Bounds.{AreBounds, IsBelowBase, IsBound}
use Rattle.ncq_shelf.specs.KeptFiles.{Files}
use Rattle.ncq_shelf.specs.Ranges.{SelectsRange}

module _ (files : Files) (input slot : ℕ) where
  -- a bound more
  pub bound_more : (rows : List SignedRow) (bounds : List ℕ) (r : SignedRow) (bound : ℕ) → AreBounds files input slot rows bounds → IsBound files input slot r bound
      → AreBounds files input slot (rows ++ r ∷ []) (bounds ++ bound ∷ [])
  bound_more [] [] r bound are h = (h, tt)
  bound_more [] (b ∷ bounds) r bound are h = absurd are
  bound_more (x ∷ rows) [] r bound are h = absurd are
  bound_more (x ∷ rows) (b ∷ bounds) r bound are h = (are.0, bound_more rows bounds r bound are.1 h)

  pub as_many : (rows : List SignedRow) (bounds : List ℕ) → AreBounds files input slot rows bounds → length bounds ≡ length rows
  as_many [] [] are = refl
  as_many [] (b ∷ bounds) are = absurd are
  as_many (r ∷ rows) [] are = absurd are
  as_many (r ∷ rows) (b ∷ bounds) are = ap suc (as_many rows bounds are.1)

  -- where a file takes a row by its interval, the row's bound is below the file's base
  pub bound_by : (interval : Interval) (n m : ℕ) → SelectsRange files input slot interval n → ((b : ℕ) → IsBelowBase files b n → b ≤ m) → (rows : List SignedRow) (bounds : List ℕ) → AreBounds files input slot rows bounds
      → AreBoundBy (is_within slot interval) m rows bounds
  bound_by interval n m selects below [] bounds are = tt
  bound_by interval n m selects below (r ∷ rows) [] are = absurd are
  bound_by interval n m selects below (r ∷ rows) (b ∷ bounds) are =
      ((λ within. below b (are.0 n (record { interval = interval; selects = selects; within = within }))), bound_by interval n m selects below rows bounds are.1)

  -- some number is above all bounds
  pub bound_all : (m : ℕ) (rows : List SignedRow) (bounds : List ℕ) → AreBounds files input slot rows bounds → total_by (λ (b : ℕ). b) bounds ≤ m → AreBoundBy (λ _. true) m rows bounds
  bound_all m [] bounds are h = tt
  bound_all m (r ∷ rows) [] are h = absurd are
  bound_all m (r ∷ rows) (b ∷ bounds) are h = ((λ _. omega arith), bound_all m rows bounds are.1 (omega arith))

-- all rows pass
pub all_rows : (rows : List SignedRow) → of_rows (λ _. true) rows ≡ rows
all_rows [] = refl
all_rows (r ∷ rows) = ap (λ rs. r ∷ rs) (all_rows rows)

-- what was the content at a number from the bound on is so still
pub content_stays : (m at : ℕ) (old new : List SignedRow) → IsFolded m old new → m ≤ at → (list : List Row) → IsContent at old list → IsContent at new list
content_stays m at old new folded up list is =
    subst (λ rs. IsContent at rs list) (all_rows new)
    ((folded_content m at (λ _. true) old new folded up list).0 (subst (λ rs. IsContent at rs list) (sym (all_rows old)) is))

-- what is equal is at most so
pub at_most : {a b : ℕ} → a ≡ b → a ≤ b
at_most e = omega arith

-- the least of two bounds is below each base that either is below
pub below_least : (files : Files) (b least number : ℕ) → least ≤ b → IsBelowBase files b number → IsBelowBase files least number
below_least files b least number le below file at = let h = below file at in omega arith
