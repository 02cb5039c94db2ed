-- Which elements, entries and stores are proper.
use Rattle.std.specs.List.{list_all}
use Rattle.std.specs.Prelude.{◌≡◌, ℕ, Bool, true, List, [], ◌∷◌, slice_get, Some, IfSome}
use Rattle.std.specs.FinMap.{get}
use Rattle.ncq_tree.specs.declared.model.Element.{Element}
use Rattle.ncq_pyx.specs.declared.item.Item.TheVariants.{Put}
use Rattle.ncq_pyx.specs.Items.{item_is_proper}
use Rattle.ncq_source.specs.Held.{Kept}
use Rattle.ncq_source.specs.Stores.{Source}
use Rattle.ncq_source.specs.StoreStates.{StoreState}
use Rattle.ncq_source.specs.declared.change.Entry.{Entry}
use Rattle.ncq_source.specs.declared.change.Portion.{Portion}
use Rattle.ncq_source.specs.declared.change.Section.{Section}

-- an element is proper: normal, and all its names are PYX names
abbrev pub IsProper : Element → Type 0
IsProper element = item_is_proper (Put element) ≡ true

-- each element that a key holds is proper
abbrev pub HoldsProper : Kept → Type 0
HoldsProper kept = (key : List ℕ) → IfSome (get kept key) IsProper

-- each element that an entry puts is proper
abbrev pub PutsProper : List Entry → Type 0
PutsProper [] = Unit {0}
PutsProper (entry ∷ entries) = IfSome entry.after IsProper × PutsProper entries

-- each element that a portion puts is proper
abbrev pub PutsProperPortion : Portion → Type 0
PutsProperPortion portion = PutsProper portion.entries

-- each element that a section puts is proper
abbrev pub puts_proper : Section → Bool
puts_proper section = list_all item_is_proper section.items

-- each element of each source is proper
abbrev pub IsProperStore : StoreState → Type 0
IsProperStore store = (at : ℕ) (source : Source) → slice_get store.sources at ≡ Some source
    → HoldsProper source.elements
