-- The nodes that are kept. Only the crate's private clauses cite it.
use Rattle.std.specs.Prelude.{List, [], ◌∷◌}
use Rattle.ncq_tree.specs.declared.model.Node.{Node}
use Rattle.ncq_tree.specs.declared.model.Node.TheVariants.{Text as text_node}
use Rattle.ncq_tree.specs.declared.model.Node.TheVariants.{Element as element_node}
use Rattle.ncq_row.specs.declared.nodes.Kept.{Kept}
use Rattle.ncq_row.specs.declared.nodes.Kept.TheVariants.{Forest, Text, Element}

-- a forest is its nodes, a text and an element stand alone
abbrev pub kept_nodes : Kept → List Node
kept_nodes (Forest nodes) = nodes
kept_nodes (Text text) = text_node text ∷ []
kept_nodes (Element element) = element_node element ∷ []
