-- The bounds of a fold. Only the crate's private clauses cite it.
use Rattle.std.specs.Prelude.{ℕ, ◌≤◌, List, [], ◌∷◌}
use Rattle.ncq_base.specs.declared.interval.Interval.{Interval}
use Rattle.ncq_row.specs.Values.{atom_at}
use Rattle.ncq_midfile.specs.declared.signed.SignedRow.{SignedRow}
use Rattle.ncq_shelf.specs.KeptFiles.{AtFile, Files}
use Rattle.ncq_shelf.specs.Ranges.{SelectsRange, TakesValue}

-- the bound is at most the base of the file of this number
abbrev pub IsBelowBase : Files → ℕ → ℕ → Type 0
IsBelowBase files bound number = AtFile files number (λ file. bound ≤ file.content.base)

-- the bound is at most the base of each file that selects by an interval of the slot of the input
abbrev pub IsBelowAll : Files → ℕ → ℕ → ℕ → Type 0
IsBelowAll files input slot bound =
    (interval : Interval) (number : ℕ) → SelectsRange files input slot interval number
    → IsBelowBase files bound number

-- the bound is at most the base of each file that takes the row of the input by an interval of the
-- slot
abbrev pub IsBound : Files → ℕ → ℕ → SignedRow → ℕ → Type 0
IsBound files input slot r bound =
    (number : ℕ) → TakesValue files input slot (atom_at r.row slot) number
    → IsBelowBase files bound number

-- there is such a bound for each of the rows, in order, and no other
abbrev pub AreBounds : Files → ℕ → ℕ → List SignedRow → List ℕ → Type 0
AreBounds files input slot [] [] = Unit {0}
AreBounds files input slot [] (bound ∷ bounds) = ⊥
AreBounds files input slot (r ∷ rows) [] = ⊥
AreBounds files input slot (r ∷ rows) (bound ∷ bounds) =
    IsBound files input slot r bound × AreBounds files input slot rows bounds
