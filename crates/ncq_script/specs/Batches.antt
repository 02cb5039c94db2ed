-- The sections that the block of a batch says, or its first fault. Lines count over the whole
-- block.
use Rattle.std.specs.Prelude.{ℕ, ◌+◌, Bool, true, false, List, [], ◌∷◌, length, Option, Some}
use Rattle.std.specs.Prelude.{None, Result, Ok, Err, if◌then◌else◌}
use Rattle.ncq_pyx.specs.Faults.{block_of}
use Rattle.ncq_pyx.specs.declared.error.PyxError.{PyxError}
use Rattle.ncq_pyx.specs.declared.error.PyxError.TheVariants.{BadLine, TooDeep, OutOfMemory}
use Rattle.ncq_pyx.specs.declared.item.Item.{Item}
use Rattle.ncq_source.specs.declared.change.Section.{Section}
use Rattle.ncq_script.specs.SpellsBatch.{Headed, is_header}
use Rattle.ncq_script.specs.Words.{words}

-- the one word of a text
abbrev pub one_word : List (List ℕ) → Option (List ℕ)
one_word (word ∷ []) = Some word
one_word _ = None

-- the source that such a line names: the one word behind the `@`
abbrev pub name_in : List ℕ → Option (List ℕ)
name_in [] = None
name_in (b ∷ text) = one_word (words text)

-- the lines before the first section, and the sections
pub record Groups : Type 0 where
  pub front : List (List ℕ)
  pub sections : List Headed

-- a line in front of grouped lines
abbrev pub with_line : List ℕ → Groups → Groups
with_line line g =
    if is_header line
    then record { front = []; sections = record { head = line; body = g.front } ∷ g.sections }
    else record { front = line ∷ g.front; sections = g.sections }

-- lines, grouped
abbrev pub groups : List (List ℕ) → Groups
groups [] = record { front = []; sections = [] }
groups (line ∷ lines) = with_line line (groups lines)

-- a section before the others
abbrev pub in_front : Section → Result (List Section) PyxError → Result (List Section) PyxError
in_front section (Ok sections) = Ok (section ∷ sections)
in_front section (Err why) = Err why

-- a section that begins at the line of this number, with what its lines say, and what comes behind
-- it: the first fault decides
abbrev pub section_then : Option (List ℕ) → ℕ → Result (List Item) PyxError
    → Result (List Section) PyxError → Result (List Section) PyxError
section_then None number said rest = Err (BadLine number)
section_then (Some name) number (Err (BadLine line)) rest = Err (BadLine (number + line))
section_then (Some name) number (Err (TooDeep line)) rest = Err (TooDeep (number + line))
section_then (Some name) number (Err OutOfMemory) rest = Err OutOfMemory
section_then (Some name) number (Ok items) rest =
    in_front (record { source = name; items = items }) rest

-- the sections, the first of which begins at the line of this number: the lines of each are a block
-- of its own
abbrev pub sections_from : ℕ → ℕ → List Headed → Result (List Section) PyxError
sections_from limit number [] = Ok []
sections_from limit number (section ∷ more) =
    section_then (name_in section.head) number (block_of limit section.body)
    (sections_from limit (number + 1 + length section.body) more)

-- the block has no items
abbrev pub says_nothing : Result (List Item) PyxError → Bool
says_nothing (Ok []) = true
says_nothing (Ok (item ∷ items)) = false
says_nothing (Err why) = false

-- a line that is skipped outside elements: alone it is a block without items
abbrev pub is_idle : ℕ → List ℕ → Bool
is_idle limit line = says_nothing (block_of limit (line ∷ []))

-- lines before the first section, the first with this number, and what comes behind them
abbrev pub idle_then : ℕ → ℕ → List (List ℕ) → Result (List Section) PyxError
    → Result (List Section) PyxError
idle_then limit number [] rest = rest
idle_then limit number (line ∷ front) rest =
    if is_idle limit line then idle_then limit (number + 1) front rest else Err (BadLine number)

-- what grouped lines say, the first with this number
abbrev pub grouped_from : ℕ → ℕ → Groups → Result (List Section) PyxError
grouped_from limit number g =
    idle_then limit number g.front (sections_from limit (number + length g.front) g.sections)

-- the sections of a block, or its first fault
abbrev pub batch_of : ℕ → List (List ℕ) → Result (List Section) PyxError
batch_of limit lines = grouped_from limit 1 (groups lines)
