-- How a batch is read, against what its block says. Only the crate's private clauses cite it.
use Rattle.std.specs.Prelude.{◌≡◌, ℕ, ◌+◌, true, false, List, [], ◌∷◌, ◌++◌, Result, Ok, Err}
use Rattle.std.specs.List.{AllByRecursion}
use Rattle.ncq_base.specs.Lines.{lines_in}
use Rattle.ncq_pyx.specs.declared.error.PyxError.{PyxError}
use Rattle.ncq_pyx.specs.declared.error.PyxError.TheVariants.{BadLine, TooDeep, OutOfMemory}
use Rattle.ncq_source.specs.declared.change.Section.{Section}
use Rattle.ncq_script.specs.Batches.{groups, idle_then, in_front, sections_from}
use Rattle.ncq_script.specs.SpellsBatch.{is_header}
use Rattle.ncq_script.specs.declared.batch.Left.{Left}

-- the sections so far before the others
abbrev pub behind : List Section → Result (List Section) PyxError → Result (List Section) PyxError
behind [] rest = rest
behind (section ∷ sections) rest = in_front section (behind sections rest)

-- the fault is this one, unless memory ran out
abbrev pub Faults : PyxError → Result (List Section) PyxError → Type 0
Faults (BadLine n) all = all ≡ Err (BadLine n)
Faults (TooDeep n) all = all ≡ Err (TooDeep n)
Faults OutOfMemory all = Unit {0}

-- the answer is what the block says, unless memory ran out
abbrev pub Says : Result (List Section) PyxError → Result (List Section) PyxError → Type 0
Says (Ok sections) all = all ≡ Ok sections
Says (Err why) all = Faults why all

-- a section begins with the first line, or there is none
abbrev pub StartsSection : List (List ℕ) → Type 0
StartsSection [] = Unit {0}
StartsSection (line ∷ lines) = is_header line ≡ true

-- the lines are these, none of which begins a section, and then those that are left
pub record IsParted (lines own left : List (List ℕ)) : Type 0 where
  pub split : lines ≡ own ++ left
  pub plain : AllByRecursion (λ line. is_header line ≡ false) own
  pub starts : StartsSection left

-- the lines before the first section are skipped, or one of them is the first fault
abbrev pub AreIdle : ℕ → List (List ℕ) → Result Unit PyxError → Type 0
AreIdle limit front (Ok done) = (rest : Result (List Section) PyxError)
    → idle_then limit 1 front rest ≡ rest
AreIdle limit front (Err why) = (rest : Result (List Section) PyxError)
    → Faults why (idle_then limit 1 front rest)

-- what lines say with which a section begins, the first with this number
abbrev pub said_from : ℕ → ℕ → List (List ℕ) → Result (List Section) PyxError
said_from limit number lines = sections_from limit number (groups lines).sections

-- the section with which the lines begin was taken, or has the first fault
abbrev pub TakesSection : ℕ → List Section → List Section → List (List ℕ) → ℕ
    → Result Left PyxError → Type 0
TakesSection limit old new lines number (Ok left) = StartsSection (lines_in left.text.now)
    × (behind new (said_from limit left.number (lines_in left.text.now))
    ≡ behind old (said_from limit number lines))
TakesSection limit old new lines number (Err why) = Faults why
    (behind old (said_from limit number lines))

-- a fault with so many lines before it, unless memory ran out
abbrev pub IsMoved : PyxError → ℕ → PyxError → Type 0
IsMoved why number OutOfMemory = Unit {0}
IsMoved (BadLine n) number (BadLine m) = m ≡ number + n
IsMoved (BadLine n) number (TooDeep m) = ⊥
IsMoved (TooDeep n) number (TooDeep m) = m ≡ number + n
IsMoved (TooDeep n) number (BadLine m) = ⊥
IsMoved OutOfMemory number (BadLine m) = ⊥
IsMoved OutOfMemory number (TooDeep m) = ⊥
