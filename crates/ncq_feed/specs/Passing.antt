-- How far a change has been passed on from file to file. Only the crate's private clauses cite it.
use Rattle.std.specs.Prelude.{◌≡◌, ℕ, ◌<◌, ◌≤◌, Bool, true, false, List, []}
use Rattle.std.specs.List.{filter}

-- what the files are, by their numbers: scans with what their signed rows are to be, selections
-- with their input and their test, joins with their inputs, what their signed rows are to be by
-- those of their inputs, and which rows of one side miss those that the other had, or those that it
-- gets
pub record Wiring (X : Type 0) : Type 1 where
  pub IsScan : ℕ → Type 0
  pub ScanGets : ℕ → List X → Type 0
  pub Selects : ℕ → ℕ → (X → Bool) → Type 0
  pub Joins : ℕ → ℕ → ℕ → Type 0
  pub JoinGets : ℕ → List X → List X → List X → Type 0
  pub LeftMisses : ℕ → List X → Type 0
  pub RightMisses : ℕ → List X → Type 0
  pub BothMiss : ℕ → List X → List X → Type 0

-- the join makes nothing of what its inputs below the number got: that misses what the other side
-- had and, where both are below the number, what it got
pub record MissesBelow {X : Type 0} (wiring : Wiring X) (next number left right : ℕ)
    (news : ℕ → List X) : Type 0 where
  pub lefts : left < next → wiring.LeftMisses number (news left)
  pub rights : right < next → wiring.RightMisses number (news right)
  pub both : left < next → right < next → wiring.BothMiss number (news left) (news right)

-- all files below the number have their signed rows of the change; from it on those that got rows,
-- and the joins that get something of what their inputs got, are pending
pub record IsPassedTo {X : Type 0} (wiring : Wiring X) (next : ℕ) (pending : ℕ → Bool)
    (news : ℕ → List X) : Type 0 where
  pub ahead : (number : ℕ) → pending number ≡ true → next ≤ number
  pub scans : (number : ℕ) → wiring.IsScan number → wiring.ScanGets number (news number)
  pub selected : (number input : ℕ) (test : X → Bool) → wiring.Selects number input test
      → input < next → news number ≡ filter test (news input)
  pub waiting : (number input : ℕ) (test : X → Bool) → wiring.Selects number input test
      → next ≤ input → news number ≡ []
  pub joined : (number left right : ℕ) → wiring.Joins number left right → number < next
      → wiring.JoinGets number (news left) (news right) (news number)
  pub unjoined : (number left right : ℕ) → wiring.Joins number left right → next ≤ number
      → news number ≡ []
  pub quiet : (number : ℕ) → next ≤ number → pending number ≡ false → news number ≡ []
  pub calm : (number left right : ℕ) → wiring.Joins number left right → next ≤ number
      → pending number ≡ false → MissesBelow wiring next number left right news

-- what one file passes on: its consumers get their part of its rows and are pending where they can
-- have more to do, and all else stays
pub record Passes {X : Type 0} (wiring : Wiring X) (at : ℕ) (pending : ℕ → Bool)
    (news : ℕ → List X) (pending' : ℕ → Bool) (news' : ℕ → List X) : Type 0 where
  pub below : (number : ℕ) → number < at → news' number ≡ news number
  pub scan : (number : ℕ) → wiring.IsScan number → news' number ≡ news number
  pub own : (input : ℕ) (test : X → Bool) → wiring.Selects at input test → news' at ≡ news at
  pub join : (left right : ℕ) → wiring.Joins at left right
      → wiring.JoinGets at (news left) (news right) (news' at)
  pub taken : (number : ℕ) (test : X → Bool) → wiring.Selects number at test
      → news' number ≡ filter test (news' at)
  pub kept : (number input : ℕ) (test : X → Bool) → wiring.Selects number input test
      → input < at → at < number → news' number ≡ news number
  pub idle : (number input : ℕ) (test : X → Bool) → wiring.Selects number input test
      → at < input → news' number ≡ []
  pub others : (number left right : ℕ) → wiring.Joins number left right → at < number
      → news' number ≡ news number
  pub later : (number : ℕ) → pending' number ≡ true → at < number
  pub stays : (number : ℕ) → at < number → pending' number ≡ false
      → (pending number ≡ false) × (news' number ≡ [])
  pub left_told : (number right : ℕ) → wiring.Joins number at right → pending' number ≡ false
      → wiring.LeftMisses number (news' at) × wiring.BothMiss number (news' at) (news' right)
  pub right_told : (number left : ℕ) → wiring.Joins number left at → pending' number ≡ false
      → wiring.RightMisses number (news' at) × wiring.BothMiss number (news' left) (news' at)
