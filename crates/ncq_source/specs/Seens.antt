-- What was prepared of sections so far. Only the crate's private clauses cite it.
use Rattle.std.specs.Prelude.{◌≡◌, ℕ, ◌+◌, List, [], ◌++◌, map, Bool, IsFalse}
use Rattle.std.specs.Prelude.{Option, Some, None, Result, Ok, Err}
use Rattle.ncq_pyx.specs.declared.item.Item.{Item}
use Rattle.ncq_source.specs.Changes.{Tells, prepared, store_after}
use Rattle.ncq_source.specs.Changes.Trial.{Good}
use Rattle.ncq_source.specs.Held.{Kept}
use Rattle.ncq_source.specs.Stores.{Source}
use Rattle.ncq_source.specs.declared.change.ChangeError.{ChangeError}
use Rattle.ncq_source.specs.declared.change.Entry.{Entry}
use Rattle.ncq_source.specs.declared.change.Portion.{Portion}
use Rattle.ncq_source.specs.declared.sections.Seen.{Seen}

-- the elements of a source after the sections so far
abbrev pub ahead_of : Source → Option Seen → Kept
ahead_of source None = source.elements
ahead_of source (Some seen) = seen.ahead

-- the entries of a source from the sections so far
abbrev pub entries_of : Option Seen → List Entry
entries_of None = []
entries_of (Some seen) = seen.entries

-- a section more, with so many items before it; behind the last section nobody looks at the
-- elements
pub record Takes (source : Source) (old : Option Seen) (items : List Item) (before : ℕ)
    (last : Bool) (new : Seen) : Type 0 where
  pub added : List Entry
  pub good : prepared source.key (before + 1) (ahead_of source old) items ≡ Good added
  pub entries : new.entries ≡ entries_of old ++ added
  pub ahead : IsFalse last → new.ahead ≡ store_after source.key (ahead_of source old) items

-- what an answer tells of a section more: it was taken, or the first of its items that cannot be
-- applied
abbrev pub TellsSeen
    : Source → Option Seen → List Item → ℕ → Bool → Result Seen ChangeError → Type 0
TellsSeen source old items before last (Ok new) = Takes source old items before last new
TellsSeen source old items before last (Err why) =
    Tells {A = List Entry} (Err why)
    (prepared source.key (before + 1) (ahead_of source old) items)

-- a source by its place, with its entries
abbrev pub placed_portion : Portion → ℕ × List Entry
placed_portion portion = (portion.source.0, portion.entries)

-- and what was prepared of a source, by its place, with its entries
abbrev pub placed_seen : ℕ × Seen → ℕ × List Entry
placed_seen pair = (pair.0, pair.1.entries)

-- the portions are what was prepared of each source, by its place
abbrev pub ArePortions : List (ℕ × Seen) → List Portion → Type 0
ArePortions pairs portions = map placed_portion portions ≡ map placed_seen pairs
