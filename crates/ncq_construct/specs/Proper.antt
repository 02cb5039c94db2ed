-- Templates and rows of which proper forests are made.
use Rattle.std.specs.Prelude.{◌≡◌, ◌&&◌, Bool, true, ℕ, List, [], map}
use Rattle.std.specs.List.{list_all}
use Rattle.ncq_base.specs.Names.{is_pyx_name}
use Rattle.ncq_pyx.specs.declared.item.Item.TheVariants.{Put}
use Rattle.ncq_pyx.specs.Canonical.{are_good, is_proper}
use Rattle.ncq_pyx.specs.Items.{item_is_proper}
use Rattle.ncq_tree.specs.declared.model.Element.{Element}
use Rattle.ncq_row.specs.Embeddings.{Row, Rows}
use Rattle.ncq_row.specs.declared.value.Value.{Value}
use Rattle.ncq_row.specs.declared.value.Value.TheVariants.{Text as TextValue, Nodes}
use Rattle.ncq_plan.specs.declared.template.SlotAttribute.{SlotAttribute}
use Rattle.ncq_plan.specs.declared.template.SlotTemplate.{SlotTemplate}
use Rattle.ncq_plan.specs.declared.template.SlotTemplate.TheOpen.{SlotTemplate-F}
use Rattle.ncq_plan.specs.declared.template.SlotTemplate.TheOpen.SlotTemplate-F.{Slot, Text}
use Rattle.ncq_plan.specs.declared.template.SlotTemplate.TheOpen.SlotTemplate-F.{Element as Made}
use Rattle.ncq_plan.specs.declared.template.SlotTemplate.TheFolds.{para-SlotTemplate}
use Rattle.ncq_plan.specs.Exprs.{World}
use Rattle.ncq_plan.specs.Templates.{attribute_of}

-- The attributes' names are PYX names, and none stands twice. Values do not matter, so it is said
-- of what the attributes are for a row without values.
abbrev pub attributes_are_named : List SlotAttribute → Bool
attributes_are_named attributes = are_good [] (map (attribute_of []) attributes)

abbrev pub named_layer : SlotTemplate-F (SlotTemplate × Bool) → Bool
named_layer (Slot slot) = true
named_layer (Text text) = true
named_layer (Made tag attributes content) =
    is_pyx_name tag && attributes_are_named attributes && list_all (λ t. t.1) content

-- The names of a template are PYX names, and no tag has two attributes of one name.
unfoldable pub template_is_named : SlotTemplate → Bool
template_is_named = para-SlotTemplate Bool named_layer

-- a value's nodes are proper; a text is any text
abbrev pub value_is_proper : Value → Bool
value_is_proper (TextValue text) = true
value_is_proper (Nodes forest) = is_proper forest

-- each value of the row is proper
abbrev pub row_is_proper : Row → Bool
row_is_proper row = list_all value_is_proper row

-- and so of each of the rows
abbrev pub rows_are_proper : Rows → Bool
rows_are_proper rows = list_all row_is_proper rows

-- an element that may be put: it is normal, and all its names are PYX names
abbrev pub element_is_proper : Element → Bool
element_is_proper element = item_is_proper (Put element)

-- each element of each source is proper
abbrev pub WorldIsProper : World → Type 0
WorldIsProper world = (source : List ℕ) → list_all element_is_proper (world source) ≡ true
