-- The sections of a batch: what they ask of each source, and the first item that cannot be applied.
use Rattle.std.specs.Prelude.{ℕ, ◌+◌, Bool, if◌then◌else◌, List, [], ◌∷◌, length}
use Rattle.std.specs.Prelude.{Option, Some, None}
use Rattle.std.specs.List.{flat_map, list_all, list_any}
use Rattle.std.specs.Option.{option_map, is_some}
use Rattle.std.specs.Str.{bytes_eq}
use Rattle.ncq_pyx.specs.declared.item.Item.{Item}
use Rattle.ncq_source.specs.Changes.{Trial, prepared, store_after}
use Rattle.ncq_source.specs.Changes.Trial.{Good, NoKey, NotThere}
use Rattle.ncq_source.specs.Held.{Kept}
use Rattle.ncq_source.specs.declared.change.Entry.{Entry}
use Rattle.ncq_source.specs.declared.change.Section.{Section}
use Rattle.ncq_source.specs.declared.key.Key.{Key}

-- whether a section names the source
abbrev pub is_named : List ℕ → List Section → Bool
is_named name sections = list_any (λ section. bytes_eq name section.source) sections

-- the items of a section, where it names the source
abbrev pub items_in : List ℕ → Section → List Item
items_in name section = if bytes_eq name section.source then section.items else []

-- the items for a source: those of the sections that name it, section by section
abbrev pub items_for : List ℕ → List Section → List Item
items_for name sections = flat_map (items_in name) sections

-- a source: the rule of its keys, and its elements by their keys
pub record Holding : Type 0 where
  pub rule : Key
  pub elements : Kept

-- for each name the source of this name, if there is one
abbrev pub Holdings : Type 0
Holdings = List ℕ → Option Holding

-- a source after items
abbrev pub holding_after : List Item → Holding → Holding
holding_after items h = record { rule = h.rule; elements = store_after h.rule h.elements items }

-- after a section the source that it names has the elements after its items
abbrev pub after_section : Holdings → Section → Holdings
after_section holdings section name =
    option_map (holding_after (items_in name section)) (holdings name)

-- whether there is a source for each section
abbrev pub are_known : Holdings → List Section → Bool
are_known holdings sections = list_all (λ section. is_some (holdings section.source)) sections

-- the items of a section, the first with this position, tried on the source that it names
abbrev pub section_trial : ℕ → List Item → Option Holding → Trial (List Entry)
section_trial position items None = Good []
section_trial position items (Some h) = prepared h.rule position h.elements items

-- what is behind a trial counts where it is good
abbrev pub go_on : {A : Type 0} → Trial (List Entry) → Trial A → Trial A
go_on (Good entries) rest = rest
go_on (NoKey position) rest = NoKey position
go_on (NotThere position) rest = NotThere position

-- the sections tried one after the other, item by item, the first item with this position: all can
-- be applied, or the first item that cannot
abbrev pub batch_trial : ℕ → Holdings → List Section → Trial (Unit {0})
batch_trial position holdings [] = Good tt
batch_trial position holdings (section ∷ sections) =
    go_on (section_trial position section.items (holdings section.source))
    (batch_trial (position + length section.items) (after_section holdings section) sections)
