-- Tables by slot, whatever their keys are. Only the crate's private clauses cite it.
use Rattle.std.specs.Prelude.{◌≡◌, ◌<◌, ◌&&◌, ℕ, Bool, cond, List, length, nat_eq, Option}
use Rattle.std.specs.FinMap.{FinMap, len}
use Rattle.std.specs.List.{IsDistinct, AllByRecursion}
use Rattle.std.specs.Map.{lookup, keys_of}
use Rattle.std.specs.Option.{option_and_then}
use Rattle.ncq_base.specs.Atoms.{atom_cmp}
use Rattle.ncq_base.specs.declared.atom.FileId.{FileId}
use Rattle.ncq_base.specs.declared.interval.Interval.{Interval}
use Rattle.ncq_consttab.specs.Ranges.{is_interval}

-- what the slot's table has at the key
abbrev pub found_at : {T K : Type 0} → (T → K → Option FileId) → List (ℕ × T) → ℕ → K
    → Option FileId
found_at find tables slot key =
    option_and_then (λ table. find table key) (lookup (nat_eq slot) tables)

-- the slot's table has this at the key, and all else is as before
abbrev pub Sets : {T K : Type 0} → (T → K → Option FileId) → (K → K → Bool) → List (ℕ × T) → ℕ → K
    → Option FileId → List (ℕ × T) → Type 0
Sets {T} {K} find same old slot key value new =
    (s : ℕ) (k : K)
    → found_at find new s k ≡ cond (nat_eq slot s && same k key) value (found_at find old s k)

-- the file of the interval
abbrev pub file_of : List (Interval × FileId) → Interval → Option FileId
file_of table interval = lookup (is_interval interval) table

-- no slot stands twice, and each table is a good one
pub record AreGroups {T : Type 0} (IsGood : T → Type 0) (tables : List (ℕ × T)) : Type 0 where
  pub slots : IsDistinct nat_eq (keys_of tables)
  pub each : AllByRecursion (λ table. IsGood table.1) tables

-- a table of constants is not empty
abbrev pub IsEqualTable : FinMap atom_cmp FileId → Type 0
IsEqualTable table = 0 < len table

-- a table of intervals is not empty, and has each once
abbrev pub IsRangeTable : List (Interval × FileId) → Type 0
IsRangeTable table = IsDistinct is_interval (keys_of table) × (0 < length table)
