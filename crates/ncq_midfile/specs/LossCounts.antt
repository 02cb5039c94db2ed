-- How often rows came in or went out, as a map from rows. Only the crate's private clauses cite it.
use Rattle.std.specs.Prelude.{◌≡◌, ◌⊎◌, ℕ, ◌+◌, ◌≤◌, Bool, true, false, not, cond, ◌&&◌, List}
use Rattle.std.specs.Prelude.{filter, length}
use Rattle.std.specs.List.{range_with_len}
use Rattle.std.specs.Option.{unwrap_or}
use Rattle.std.specs.Map.{lookup}
use Rattle.std.specs.Borrow.{Bor}
use Rattle.ncq_base.specs.Keys.{times}
use Rattle.ncq_midfile.specs.Content.{Row, rows_of, signed_at, IsPart}
use Rattle.ncq_midfile.specs.Folds.{is_candidate}
pub use Rattle.ncq_midfile.specs.Rows.{is_row}
use Rattle.ncq_midfile.specs.declared.signed.SignedRow.{SignedRow}

-- the count of the row, 0 where there is none
abbrev pub loss_count : Row → List (Bor Row × ℕ) → ℕ
loss_count q entries = unwrap_or (lookup (λ key. is_row q key.now) entries) 0

-- whether the signed row came in, or went out
abbrev pub has_sign : Bool → SignedRow → Bool
has_sign plus r = cond plus r.plus (not r.plus)

-- the rows of those that came in, or of those that went out
abbrev pub of_sign : Bool → List SignedRow → List Row
of_sign plus rows = rows_of (filter (has_sign plus) rows)

-- each row is counted as often as it came in, or as it went out
abbrev pub CountsOf : Bool → List SignedRow → List (Bor Row × ℕ) → Type 0
CountsOf plus rows entries =
    (q : Row) → loss_count q entries ≡ times (is_row q) (of_sign plus rows)

-- what one signed row does to the losses of one row: s says whether it is that row, kept whether it
-- came in and stays
pub record IsStrike (s plus kept : Bool) (before after : ℕ) : Type 0 where
  pub counts : after + cond (plus && not kept && s) 1 0 ≡ before
  pub came : kept ≡ true → plus ≡ true
  pub free : s ≡ true → kept ≡ true → before ≡ 0

-- what one signed row does to the losses of one row: own says whether it may take a loss, s whether
-- it is that row, and taken whether one was left that it took
pub record TakesLoss (s own taken : Bool) (before after : ℕ) : Type 0 where
  pub counts : after + cond (own && taken && s) 1 0 ≡ before
  pub free : s ≡ true → own ≡ true → taken ≡ false → before ≡ 0

-- how it stands with one row while the places are gone through: how often it is kept, its losses
-- that are left to strike, all its losses, and how often it came in so far
pub record IsStruck (kept left all came : ℕ) : Type 0 where
  pub counts : kept + all ≡ came + left
  pub done : (left ≡ 0) ⊎ (kept ≡ 0)

-- how often the row came in, or went out, at those of the places where it has a number up to the
-- bound
abbrev pub early_count : Bool → Row → List SignedRow → List ℕ → List ℕ → ℕ
early_count plus q rows bounds places =
    times (is_row q) (of_sign plus (signed_at (filter (is_candidate rows bounds) places) rows))

-- of the first places those went where a row came in and struck a loss out; the entries count the
-- losses that are left of those of all rows
pub record AreUnstruck (rows : List SignedRow) (bounds front places : List ℕ)
    (entries : List (Bor Row × ℕ)) : Type 0 where
  pub part : IsPart places front
  pub late : filter (λ p. not (is_candidate rows bounds p)) places
      ≡ filter (λ p. not (is_candidate rows bounds p)) front
  pub went : (q : Row) → early_count false q rows bounds places
      ≡ early_count false q rows bounds front
  pub came : (q : Row) → IsStruck (early_count true q rows bounds places) (loss_count q entries)
      (early_count false q rows bounds (range_with_len 0 (length rows)))
      (early_count true q rows bounds front)
  pub fewer : (q : Row) → loss_count q entries
      ≤ early_count false q rows bounds (range_with_len 0 (length rows))
