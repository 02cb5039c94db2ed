-- Joins that rows of a file may meet, as they are gathered. Only the crate's private clauses cite
-- it.
use Rattle.std.specs.Prelude.{◌≡◌, ◌≢◌, ◌⊎◌, ◌<◌, ℕ, true, List, length, nat_eq, Some}
use Rattle.std.specs.List.{AllByRecursion}
use Rattle.std.specs.Map.{lookup}
use Rattle.ncq_row.specs.Embeddings.{Row}
use Rattle.ncq_row.specs.Values.{atom_at}
use Rattle.ncq_row.specs.declared.pair.Pair.{Pair}
use Rattle.ncq_plan.specs.declared.expr.Expr.{Expr}
use Rattle.ncq_plan.specs.declared.expr.Expr.TheVariants.{Join}
use Rattle.ncq_holders.specs.Held.{is_holder}
use Rattle.ncq_shelf.specs.Readers.{IsAmong}
use Rattle.ncq_shelf.specs.Keyed.{IsKey}
use Rattle.ncq_shelf.specs.declared.file.File.{File}
use Rattle.ncq_shelf.specs.declared.inputs.Inputs.{Inputs}
use Rattle.ncq_shelf.specs.declared.inputs.Inputs.TheVariants.{Nothing, One, Two}
use Rattle.ncq_shelf.specs.declared.keys.Keys.{Keys}

-- the number is one of the inputs
abbrev pub IsSide : Inputs → ℕ → Type 0
IsSide Nothing input = ⊥
IsSide (One number) input = number ≡ input
IsSide (Two left right) input = (left ≡ input) ⊎ (right ≡ input)

-- the file is that of a join over the one of this number
pub record IsJoinFileOver (file : File) (input : ℕ) : Type 0 where
  pub first : Expr
  pub second : Expr
  pub pairs : List Pair
  pub is : file.expr ≡ Join first second pairs
  pub side : IsSide file.inputs input

-- so is the file of this number
pub record IsOver (files : List (ℕ × File)) (input number : ℕ) : Type 0 where
  pub file : File
  pub at : lookup (nat_eq number) files ≡ Some file
  pub over : IsJoinFileOver file input

-- nothing goes, and only joins over the file come in
pub record Gathers (files : List (ℕ × File)) (input : ℕ) (old new : List ℕ) : Type 0 where
  pub kept : (number : ℕ) → IsAmong number old → IsAmong number new
  pub only : (number : ℕ) → IsAmong number new → IsAmong number old ⊎ IsOver files input number

-- if the number is that of a join over the file, it is among those that are met
abbrev pub IsGathered : List (ℕ × File) → ℕ → List ℕ → ℕ → Type 0
IsGathered files input met number = IsOver files input number → IsAmong number met

-- the joins of the file with another are met
abbrev pub IsHolderMet : List (ℕ × File) → ℕ → List ℕ → ℕ → Type 0
IsHolderMet files input met holder =
    holder ≢ input → (file : File) → lookup (nat_eq holder) files ≡ Some file
    → AllByRecursion (IsGathered files input met) file.readers.joins

-- the joins of the file with those that have had the row's atom at the slot are met
abbrev pub IsSlotMet : List (ℕ × File) → Keys → ℕ → List ℕ → Row → ℕ → Type 0
IsSlotMet files keys input met row slot =
    slot < length row → (holder : ℕ) → is_holder keys.holders (atom_at row slot) holder ≡ true
    → IsHolderMet files input met holder

-- so it is at each of the file's slots
abbrev pub IsRowMet : List (ℕ × File) → Keys → ℕ → List ℕ → Row → Type 0
IsRowMet files keys input met row =
    (slot : ℕ) → IsKey keys input slot → IsSlotMet files keys input met row slot
