-- What a shelf keeps to find the joins that a row may meet. Only the crate's private clauses cite
-- it.
use Rattle.std.specs.Prelude.{◌≡◌, ◌≢◌, ◌⊎◌, ◌||◌, ℕ, Bool, true, not, List, [], ◌∷◌, length}
use Rattle.std.specs.Prelude.{nat_eq, nat_lt, Some}
use Rattle.std.specs.List.{AllByRecursion}
use Rattle.std.specs.Map.{lookup}
use Rattle.std.specs.Option.{option_map_or}
use Rattle.ncq_base.specs.declared.atom.Atom.{Atom}
use Rattle.ncq_row.specs.Embeddings.{Row}
use Rattle.ncq_row.specs.Values.{atom_at}
use Rattle.ncq_row.specs.declared.pair.Pair.{Pair}
use Rattle.ncq_plan.specs.declared.expr.Expr.{Expr}
use Rattle.ncq_plan.specs.declared.expr.Expr.TheVariants.{Join}
use Rattle.ncq_midfile.specs.declared.signed.SignedRow.{SignedRow}
use Rattle.ncq_holders.specs.Held.{Held, is_holder}
use Rattle.ncq_shelf.specs.KeptFiles.{AtFile, Files}
use Rattle.ncq_readers.specs.ReaderTables.{ReaderTables}
use Rattle.ncq_shelf.specs.Stands.{IsThere}
use Rattle.ncq_shelf.specs.Readers.{IsAmong, JoinsFrom}
use Rattle.ncq_shelf.specs.Groups.{Groups, IsGrouped}
use Rattle.ncq_shelf.specs.Shown.{shown, state_of}
use Rattle.ncq_shelf.specs.Wired.{IsShelved}
use Rattle.ncq_shelf.specs.Enrolled.{AreSidesOf}
use Rattle.ncq_shelf.specs.declared.file.File.{File}
use Rattle.ncq_shelf.specs.declared.inputs.Inputs.{Inputs}
use Rattle.ncq_shelf.specs.declared.keys.KeyedFile.{KeyedFile}
use Rattle.ncq_shelf.specs.declared.keys.Keys.{Keys}

-- the row has no such slot, or the file is noted for its atom there
abbrev pub is_held : Held → ℕ → ℕ → Row → Bool
is_held held number slot row =
    not (nat_lt slot (length row)) || is_holder held (atom_at row slot) number

abbrev pub IsHeld : Held → ℕ → ℕ → Row → Type 0
IsHeld held number slot row = is_held held number slot row ≡ true

-- so it is of each of the rows
abbrev pub AreHeld : Held → ℕ → ℕ → List SignedRow → Type 0
AreHeld held number slot rows = AllByRecursion (λ r. IsHeld held number slot r.row) rows

-- each file is noted for what it was noted for
abbrev pub HoldsMore : Held → Held → Type 0
HoldsMore old new =
    (atom : Atom) (n : ℕ) → is_holder old atom n ≡ true → is_holder new atom n ≡ true

-- each other file is noted for what it was noted for
abbrev pub HoldsOthers : ℕ → Held → Held → Type 0
HoldsOthers number old new =
    (atom : Atom) (n : ℕ) → n ≢ number → is_holder old atom n ≡ true
    → is_holder new atom n ≡ true

-- the file is noted for what it was noted for, of the fresh atoms
abbrev pub HoldsBoth : Held → ℕ → Held → Held → Type 0
HoldsBoth fresh number old new =
    (atom : Atom) → is_holder fresh atom number ≡ true → is_holder old atom number ≡ true
    → is_holder new atom number ≡ true

-- the slots at which the rows of a file are noted
abbrev pub slots_in : List (ℕ × KeyedFile) → ℕ → List ℕ
slots_in files number = option_map_or (λ file. file.slots.keys) (lookup (nat_eq number) files) []

-- the same rows are noted at the same slots
abbrev pub HaveKept : List (ℕ × KeyedFile) → List (ℕ × KeyedFile) → Type 0
HaveKept old new = (number : ℕ) → slots_in new number ≡ slots_in old number

-- the rows of the file are noted at the slot
abbrev pub IsKey : Keys → ℕ → ℕ → Type 0
IsKey keys number slot = IsAmong slot (slots_in keys.files.entries number)

-- the join is met whatever comes
abbrev pub IsAlways : Keys → ℕ → Type 0
IsAlways keys number = IsAmong number keys.always.keys

-- at no slot of a file
abbrev pub nowhere : ℕ → ℕ → Type 0
nowhere number slot = ⊥

-- at a slot of this file, for which its rows are noted
abbrev pub noted_at : ℕ → List SignedRow → Held → ℕ → ℕ → Type 0
noted_at number rows held other slot = (other ≡ number) × AreHeld held other slot rows

-- all is kept that was, and rows are noted at more slots at the fresh ones at most
pub record Grows (fresh : ℕ → ℕ → Type 0) (old new : Keys) : Type 0 where
  pub keys : (number slot : ℕ) → IsKey old number slot → IsKey new number slot
  pub only : (number slot : ℕ) → IsKey new number slot → IsKey old number slot ⊎ fresh number slot
  pub held : HoldsMore old.holders new.holders
  pub always : (number : ℕ) → IsAlways old number → IsAlways new number

-- all is kept but what is kept of this file
pub record ForgetsFile (old : Keys) (number : ℕ) (new : Keys) : Type 0 where
  pub keys : (other slot : ℕ) → other ≢ number → IsKey old other slot → IsKey new other slot
  pub only : (other slot : ℕ) → IsKey new other slot → (other ≢ number) × IsKey old other slot
  pub held : HoldsOthers number old.holders new.holders
  pub always : (other : ℕ) → other ≢ number → IsAlways old other → IsAlways new other

-- all is kept, but that the file is noted for atoms that none of these rows has at its slots
pub record Renews (old : Keys) (number : ℕ) (rows : List SignedRow) (new : Keys) : Type 0 where
  pub slots : HaveKept old.files.entries new.files.entries
  pub held : (slot : ℕ) → IsKey old number slot → AreHeld old.holders number slot rows
      → AreHeld new.holders number slot rows
  pub others : HoldsOthers number old.holders new.holders
  pub always : (other : ℕ) → IsAlways old other → IsAlways new other

-- the rows of two files are noted where the first pair compares them
abbrev pub AreKeyed : Keys → ℕ → ℕ → List Pair → Type 0
AreKeyed keys left right [] = ⊥
AreKeyed keys left right (pair ∷ more) =
    (left ≢ right) × IsKey keys left pair.left × IsKey keys right pair.right

-- the join of the two files is found when it is met
abbrev pub IsFound : Keys → ℕ → ℕ → ℕ → List Pair → Type 0
IsFound keys number left right pairs = IsAlways keys number ⊎ AreKeyed keys left right pairs

-- the file has those rows, and they are noted at the slot
pub record AreNotedIn (groups : Groups) (files : List (ℕ × File)) (held : Held) (number slot : ℕ)
    : Type 0 where
  pub file : File
  pub at : lookup (nat_eq number) files ≡ Some file
  pub noted : AreHeld held number slot (state_of groups file).content.rows

-- if the expression is a join of the files of the inputs, it is found when it is met
abbrev pub IsJoinFound : Keys → ℕ → Expr → Inputs → Type 0
IsJoinFound keys number whole inputs =
    (first second : Expr) (pairs : List Pair) (left right : ℕ) → whole ≡ Join first second pairs
    → AreSidesOf inputs left right → IsFound keys number left right pairs

-- rows are noted at slots of files that are there, the rows of each file are noted at its slots,
-- and each join is found when it is met
pub record IsKeyed (files : Files) (keys : Keys) : Type 0 where
  pub there : (number slot : ℕ) → IsKey keys number slot → IsThere files number
  pub noted : (number slot : ℕ) → AtFile files number (λ file.
      IsKey keys number slot → AreHeld keys.holders number slot file.content.rows)
  pub found : (number left right : ℕ) (joins : JoinsFrom files number left right)
      → IsFound keys number left right joins.pairs

-- the files are found and know their readers, virtual ones have their groups, and the joins that a
-- row may meet are found
pub record IsKept (groups : Groups) (files : List (ℕ × File)) (numbers : List (Expr × ℕ))
    (scans : List (List ℕ × ReaderTables)) (keys : Keys) : Type 0 where
  pub shelved : IsShelved groups files numbers scans
  pub grouped : IsGrouped files groups
  pub keyed : IsKeyed (shown groups files) keys
