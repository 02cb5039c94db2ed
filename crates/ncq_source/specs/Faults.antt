-- Why items cannot be applied to their sources: the first item that cannot be applied decides.
use Rattle.std.specs.Prelude.{ℕ, ◌+◌, if◌then◌else◌, List, [], ◌∷◌, length, Option, Some, None}
use Rattle.std.specs.FinMap.{get}
use Rattle.std.specs.Option.{is_none, option_or}
use Rattle.ncq_pyx.specs.declared.item.Item.{Item}
use Rattle.ncq_pyx.specs.declared.item.Item.TheVariants.{Put, Remove}
use Rattle.ncq_source.specs.Changes.{Trial, taken}
use Rattle.ncq_source.specs.Changes.Trial.{Good, NoKey, NotThere}
use Rattle.ncq_source.specs.Held.{Kept}
use Rattle.ncq_source.specs.Keys.{key_of}
use Rattle.ncq_source.specs.Sections.{Holding, Holdings, after_section, are_known}
use Rattle.ncq_source.specs.declared.change.ChangeError.{ChangeError}
use Rattle.ncq_source.specs.declared.change.ChangeError.TheVariants.{BadKey, NoSuchKey, NoSource}
use Rattle.ncq_source.specs.declared.change.Section.{Section}
use Rattle.ncq_source.specs.declared.key.Key.{Key}

-- why an item at this position cannot be applied to these elements: a put has no key, or nothing
-- stands under the key that a removal names
abbrev pub fault_of : Key → ℕ → Kept → Item → Option ChangeError
fault_of rule position kept (Put element) =
    if is_none (key_of rule element) then Some (BadKey position) else None
fault_of rule position kept (Remove key) =
    if is_none (get kept key) then Some (NoSuchKey position) else None

-- why the first item that cannot be applied cannot be: each is seen with the elements as the items
-- before it leave them, and the first of all has this position
abbrev pub first_fault : Key → ℕ → Kept → List Item → Option ChangeError
first_fault rule position kept [] = None
first_fault rule position kept (item ∷ items) =
    option_or (fault_of rule position kept item)
    (first_fault rule (position + 1) (taken rule kept item) items)

-- why the items of a section cannot be applied to the source that it names, the first of them with
-- this position
abbrev pub section_fault : ℕ → List Item → Option Holding → Option ChangeError
section_fault position items None = None
section_fault position items (Some h) = first_fault h.rule position h.elements items

-- why the first item of sections that cannot be applied cannot be: each section is seen with the
-- sources as the sections before it leave them, and the first item of all has this position
abbrev pub batch_fault : ℕ → Holdings → List Section → Option ChangeError
batch_fault position holdings [] = None
batch_fault position holdings (section ∷ sections) =
    option_or (section_fault position section.items (holdings section.source))
    (batch_fault (position + length section.items) (after_section holdings section) sections)

-- why sections cannot be applied: one names no source, else the first item that cannot be applied
abbrev pub sections_fault : Holdings → List Section → Option ChangeError
sections_fault holdings sections =
    if are_known holdings sections then batch_fault 1 holdings sections else Some NoSource

-- why there are no entries, where there are none
abbrev pub fault_in : {A : Type 0} → Trial A → Option ChangeError
fault_in (Good value) = None
fault_in (NoKey position) = Some (BadKey position)
fault_in (NotThere position) = Some (NoSuchKey position)
