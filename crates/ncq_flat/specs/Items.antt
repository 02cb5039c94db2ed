-- How a block is taken apart. Only the crate's private clauses cite it.
use Rattle.std.specs.Prelude.{◌≡◌, ◌≤◌, ℕ, List, ◌++◌, All, length, Bool, true}
use Rattle.ncq_base.specs.Lines.{IsClean, text_of}
use Rattle.ncq_pyx.specs.declared.error.PyxError.{PyxError}
use Rattle.ncq_pyx.specs.declared.error.PyxError.TheVariants.{BadLine, TooDeep, OutOfMemory}

-- these whole lines, so many, stand in front of the rest
abbrev pub Stand : List (List ℕ) → List ℕ → List ℕ → ℕ → Type 0
Stand lines text rest count =
    All IsClean lines × ((text ≡ text_of lines ++ rest) × (length lines ≡ count))

-- so many whole lines stand in front of the rest
abbrev pub Leads : List ℕ → List ℕ → ℕ → Type 0
Leads text rest count = (lines : List (List ℕ)) × Stand lines text rest count

-- the same, of lines that meet the test
abbrev pub LeadsWhere : (List (List ℕ) → Bool) → List ℕ → List ℕ → ℕ → Type 0
LeadsWhere test text rest count =
    (lines : List (List ℕ)) × (Stand lines text rest count × (test lines ≡ true))

-- the line of the fault is at most this one
abbrev pub IsWithin : ℕ → PyxError → Type 0
IsWithin most (BadLine n) = n ≤ most
IsWithin most (TooDeep n) = n ≤ most
IsWithin most OutOfMemory = Unit {0}
