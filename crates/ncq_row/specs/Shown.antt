-- The nodes that are shown.
use Rattle.std.specs.Prelude.{List, [], ◌∷◌}
use Rattle.ncq_tree.specs.declared.model.Node.{Node}
use Rattle.ncq_tree.specs.declared.model.Node.TheVariants.{Text as text_node}
use Rattle.ncq_tree.specs.declared.model.Node.TheVariants.{Element as element_node}
use Rattle.ncq_row.specs.declared.nodes.Shown.{Shown}
use Rattle.ncq_row.specs.declared.nodes.Shown.TheVariants.{Forest, Text, Element}

-- a forest is its nodes, a text and an element stand alone
abbrev pub shown_nodes : Shown → List Node
shown_nodes (Forest nodes) = nodes.now
shown_nodes (Text text) = text_node text.now ∷ []
shown_nodes (Element element) = element_node element.now ∷ []
