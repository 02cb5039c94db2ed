-- What a read and a write tell: the bytes that they move, and when their counts rise.
use Rattle.std.specs.Prelude.{◌≡◌, ◌-◌, ◌<◌, ◌≤◌, ◌+◌, ◌^◌, ℕ, min, List, length, Result, IfOk}
use Rattle.std.specs.Prelude.{IfSome, OnErr, MatchResult, Option}

-- a count with n more, which stands once it has reached 2^64 - 1
abbrev pub raised : ℕ → ℕ → ℕ
raised before n = min (before + n) (2 ^ 64 - 1)

-- a count with one more
abbrev pub one_more : ℕ → ℕ
one_more before = raised before 1

-- the count rose, or stands at its end
abbrev pub Rose : ℕ → ℕ → Type 0
Rose before now = one_more before ≤ now

-- a call fails only where its count of faults rose; the count never falls, and stands at its end
pub record HasCause {T E : Type 0} (before now : ℕ) (result : Result T E) : Type 0 where
  pub later : before ≤ now
  pub stands : 2 ^ 64 - 1 ≤ before → now ≡ before
  pub failed : OnErr result (Rose before now)

-- a failed call raises the count of faults by one, and no other call changes it
abbrev pub CountsFault : {T E : Type 0} → ℕ → ℕ → Result T E → Type 0
CountsFault before now result = MatchResult result (λ _. now ≡ before) (λ _. now ≡ one_more before)

-- the count rose by n, or stands at its end, and it never falls
pub record RoseBy (before n now : ℕ) : Type 0 where
  pub later : before ≤ now
  pub total : now ≡ raised before n

-- the bytes that a read gave are counted, and a failed read leaves the count
abbrev pub Counts : {E : Type 0} → ℕ → ℕ → Result ℕ E → Type 0
Counts before now result = MatchResult result (λ n. RoseBy before n now) (λ _. now ≡ before)

-- a write took at least one byte, and no more than were offered
abbrev pub TakesSome : {E : Type 0} → Result ℕ E → List ℕ → Type 0
TakesSome result bytes = IfOk result (λ n. (0 < n) × (n ≤ length bytes))

-- where the bytes held are told, there are this many or more
abbrev pub IsFull : ℕ → Option (List ℕ) → Type 0
IsFull sure held = IfSome held (λ bytes. sure ≤ length bytes)
