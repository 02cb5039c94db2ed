-- The counts of groups. Callers cite `AreCounted` alone; the rest is for private clauses.
use Rattle.std.specs.Prelude.{◌≡◌, ℕ, ◌+◌, ◌-◌, ◌<◌, ◌==◌, Bool, if◌then◌else◌}
use Rattle.std.specs.Prelude.{List, Option, Some, None}
use Rattle.std.specs.Map.{lookup}
use Rattle.std.specs.Option.{unwrap_or}
use Rattle.ncq_signature.specs.declared.signature.Signature.{Signature}
use Rattle.ncq_signature.specs.Groups.{count_of}
use Rattle.ncq_shelf.specs.KeptFiles.{Files}
use Rattle.ncq_count.specs.declared.key.GroupKey.{GroupKey}
use Rattle.ncq_count.specs.contracts.key.GroupKeyPartialEq.TheImpl.{ghosts as key_eq}
use Rattle.ncq_count.specs.FileExprs.{exprs_of}
use Rattle.ncq_count.specs.Keys.{Tells}

-- whether two keys are one
abbrev pub is_key : GroupKey → GroupKey → Bool
is_key = key_eq.eq

-- the count of a key, and 0 where it has no entry
abbrev pub count_at : List (GroupKey × ℕ) → GroupKey → ℕ
count_at counts key = unwrap_or (lookup (is_key key) counts) 0

-- the count is there where it is not 0
abbrev pub kept_count : ℕ → Option ℕ
kept_count n = if n == 0 then None else Some n

-- the count of the key is one more; all others are as before
abbrev pub GainsFile : List (GroupKey × ℕ) → GroupKey → List (GroupKey × ℕ) → Type 0
GainsFile old key new =
    (other : GroupKey) → lookup (is_key other) new
    ≡ (if is_key key other then Some (count_at old key + 1) else lookup (is_key other) old)

-- the count of the key is one less, and gone where none is left; all others are as before
abbrev pub LosesFile : List (GroupKey × ℕ) → GroupKey → List (GroupKey × ℕ) → Type 0
LosesFile old key new =
    (other : GroupKey) → lookup (is_key other) new
    ≡ (if is_key key other then kept_count (count_at old key - 1) else lookup (is_key other) old)

-- each key with a count tells a signature, and each key that tells one has as many files counted as
-- there are of the signature
pub record AreCounted (files : Files) (counts : List (GroupKey × ℕ)) : Type 0 where
  pub some : (key : GroupKey) (count : ℕ) → lookup (is_key key) counts ≡ Some count → 0 < count
  pub tells : (key : GroupKey) (count : ℕ) → lookup (is_key key) counts ≡ Some count
      → (s : Signature) × Tells files key s
  pub right : (key : GroupKey) (s : Signature) → Tells files key s
      → count_at counts key ≡ count_of (exprs_of files) s
