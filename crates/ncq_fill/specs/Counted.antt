-- How many numbers inputs are told by. Only the crate's private clauses cite it.
use Rattle.std.specs.Prelude.{◌≡◌, ℕ}
use Rattle.ncq_shelf.specs.declared.inputs.Inputs.{Inputs}
use Rattle.ncq_shelf.specs.declared.inputs.Inputs.TheVariants.{Nothing, One, Two}

-- there is one number
abbrev pub IsOne : Inputs → Type 0
IsOne Nothing = ⊥
IsOne (One number) = Unit {0}
IsOne (Two left right) = ⊥

-- there are numbers
abbrev pub AreSome : Inputs → Type 0
AreSome Nothing = ⊥
AreSome (One number) = Unit {0}
AreSome (Two left right) = Unit {0}

-- the numbers are those of the left and of the right; one number is that of both
abbrev pub AreOf : ℕ → ℕ → Inputs → Type 0
AreOf left right Nothing = ⊥
AreOf left right (One number) = (left ≡ number) × (right ≡ number)
AreOf left right (Two first second) = (left ≡ first) × (right ≡ second)
