-- What a block asks for.
use Rattle.std.specs.Prelude.{Bool, true, ◌&&◌}
use Rattle.ncq_tree.specs.declared.model.Node.TheVariants.{Element as element_node}
use Rattle.ncq_tree.specs.Normal.{node_is_normal}
use Rattle.ncq_pyx.specs.declared.item.Item.{Item}
use Rattle.ncq_pyx.specs.declared.item.Item.TheVariants.{Put, Remove}
use Rattle.ncq_pyx.specs.Canonical.{is_named}

-- an element that is put is proper
abbrev pub item_is_proper : Item → Bool
item_is_proper (Put e) = node_is_normal (element_node e) && is_named (element_node e)
item_is_proper (Remove key) = true
