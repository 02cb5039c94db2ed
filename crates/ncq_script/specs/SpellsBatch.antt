-- What the lines of a batch's block spell, and where its first fault is, as relations on lines.
use Rattle.std.specs.Prelude.{◌≡◌, ◌==◌, ◌+◌, ◌<◌, ◌≤◌, ℕ, Bool, false, List, [], ◌∷◌, ◌++◌, length}
use Rattle.std.specs.Prelude.{take, Result, Ok, Err, ◌⊎◌}
use Rattle.std.specs.List.{AllByRecursion, AllZip, flat_map}
use Rattle.ncq_pyx.specs.Spells.{Spells}
use Rattle.ncq_pyx.specs.declared.error.PyxError.{PyxError}
use Rattle.ncq_pyx.specs.declared.error.PyxError.TheVariants.{BadLine, TooDeep, OutOfMemory}
use Rattle.ncq_source.specs.declared.change.Section.{Section}
use Rattle.ncq_script.specs.Words.{words}

-- a line that begins with `@` begins a section
abbrev pub is_header : List ℕ → Bool
is_header [] = false
is_header (b ∷ text) = b == 64

-- the line is `@` and one word behind it, which is this name
pub record Names (line name : List ℕ) : Type 0 where
  pub text : List ℕ
  pub begins : line ≡ 64 ∷ text
  pub one : words text ≡ name ∷ []

-- the line that begins a section, and the lines behind it
pub record Headed : Type 0 where
  pub head : List ℕ
  pub body : List (List ℕ)

-- both, as they stand
abbrev pub lines_of : Headed → List (List ℕ)
lines_of part = part.head ∷ part.body

-- the first line names the source of the section; no other begins with `@`, and these spell its
-- items
pub record SpellsSection (limit : ℕ) (part : Headed) (section : Section) : Type 0 where
  pub source : Names part.head section.source
  pub own : AllByRecursion (λ line. is_header line ≡ false) part.body
  pub items : Spells limit part.body section.items

-- PYX skips the line outside elements: alone it spells no items
abbrev pub IsIdle : ℕ → List ℕ → Type 0
IsIdle limit line = Spells limit (line ∷ []) []

-- the lines spell these sections: lines that are skipped, and then the lines of each section
pub record SpellsBatch (limit : ℕ) (lines : List (List ℕ)) (sections : List Section) : Type 0 where
  pub front : List (List ℕ)
  pub parts : List Headed
  pub split : lines ≡ front ++ flat_map lines_of parts
  pub idle : AllByRecursion (IsIdle limit) front
  pub spelled : AllZip (SpellsSection limit) parts sections

-- the lines spell some sections
abbrev pub IsBatch : ℕ → List (List ℕ) → Type 0
IsBatch limit lines = (sections : List Section) × SpellsBatch limit lines sections

-- some lines behind these make a batch
abbrev pub CanBeBatch : ℕ → List (List ℕ) → Type 0
CanBeBatch limit lines = (more : List (List ℕ)) × IsBatch limit (lines ++ more)

-- no continuation of the lines up to this one is a batch; or the lines end inside an element, and
-- this is their number
abbrev pub BatchEndsAt : ℕ → List (List ℕ) → ℕ → Type 0
BatchEndsAt limit lines k = ((k < length lines) × ¬ CanBeBatch limit (take (k + 1) lines))
    ⊎ ((k ≡ length lines) × ¬ IsBatch limit lines)

-- the first fault is at line n of all, counted from 1: the lines before it can go on to a batch,
-- and not with it
pub record IsBatchFault (limit : ℕ) (lines : List (List ℕ)) (n : ℕ) : Type 0 where
  pub before : ℕ
  pub next : n ≡ before + 1
  pub good : CanBeBatch limit (take before lines)
  pub bad : BatchEndsAt limit lines before

-- the first fault is the depth: with one more element open it would be none
pub record IsTooDeepBatch (limit : ℕ) (lines : List (List ℕ)) (n : ℕ) : Type 0 where
  pub fault : IsBatchFault limit lines n
  pub within : n ≤ length lines
  pub deeper : CanBeBatch (limit + 1) (take n lines)

-- the first fault is another
pub record IsBadBatch (limit : ℕ) (lines : List (List ℕ)) (n : ℕ) : Type 0 where
  pub fault : IsBatchFault limit lines n
  pub other : n ≤ length lines → ¬ CanBeBatch (limit + 1) (take n lines)

-- what is to be answered; lines never say that memory ran out
abbrev pub BatchRefusal : ℕ → List (List ℕ) → PyxError → Type 0
BatchRefusal limit lines (BadLine n) = IsBadBatch limit lines n
BatchRefusal limit lines (TooDeep n) = IsTooDeepBatch limit lines n
BatchRefusal limit lines OutOfMemory = ⊥

-- the answer is right: the sections that the lines spell, or the refusal that is due
abbrev pub ReadsBatch : ℕ → List (List ℕ) → Result (List Section) PyxError → Type 0
ReadsBatch limit lines (Ok sections) = SpellsBatch limit lines sections
ReadsBatch limit lines (Err why) = BatchRefusal limit lines why
