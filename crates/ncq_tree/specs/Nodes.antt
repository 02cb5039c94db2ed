-- A value of a node, from what it gives of the nodes below it.
use Rattle.std.specs.Prelude.{◌≡◌, ℕ, List, map}
use Rattle.std.proofs.Common.{ap, ◌∙◌, sym}
use Rattle.ncq_tree.specs.declared.model.Attribute.{Attribute}
use Rattle.ncq_tree.specs.declared.model.Element.{Element}
use Rattle.ncq_tree.specs.declared.model.Node.{Node}
use Rattle.ncq_tree.specs.declared.model.Node.TheVariants.{Text as text_node}
use Rattle.ncq_tree.specs.declared.model.Node.TheVariants.{Element as element_node, rolls-Text}
use Rattle.ncq_tree.specs.declared.model.Node.TheVariants.{rolls-Element}
use Rattle.ncq_tree.specs.declared.model.Node.TheViews.{out-Element, roll-out-Element}
use Rattle.ncq_tree.specs.declared.model.Node.TheOpen.{Node-F, Element-F}
use Rattle.ncq_tree.specs.declared.model.Node.TheOpen.Node-F.{Text, Element as Inner}
use Rattle.ncq_tree.specs.declared.model.Node.TheFolds.{para-Node, para-Element, para-roll-Node}
use Rattle.ncq_tree.specs.declared.model.Node.TheFolds.{para-roll-Element}

module _ {A : Type 0} (of_text : List ℕ → A)
    (of_element : List ℕ → List Attribute → List (Node × A) → A) where
  abbrev node_layer : Node-F (Node × A) (Element × A) → A
  node_layer (Text text) = of_text text
  node_layer (Inner below) = below.1

  abbrev element_layer : Element-F (Node × A) (Element × A) → A
  element_layer element = of_element element.name element.attributes element.children

  -- by `of_text` of a text, and by `of_element` of an element, which is given each child with its
  -- value
  unfoldable pub by_nodes : Node → A
  by_nodes = para-Node A A node_layer element_layer

  pub by_nodes_text : (text : List ℕ) → by_nodes (text_node text) ≡ of_text text
  unfolding by_nodes
  by_nodes_text text =
      ap (para-Node A A node_layer element_layer)
      (sym (rolls-Text text)) ∙ para-roll-Node A A node_layer element_layer (Text text)

  pub by_nodes_element : (e : Element)
      → by_nodes (element_node e) ≡ of_element e.name e.attributes
      (map (λ n. (n, by_nodes n)) e.children)
  unfolding by_nodes
  by_nodes_element e =
      ap (para-Node A A node_layer element_layer) (sym (rolls-Element e))
      ∙ para-roll-Node A A node_layer element_layer (Inner e)
      ∙ ap (para-Element A A node_layer element_layer) (sym (roll-out-Element e))
      ∙ para-roll-Element A A node_layer element_layer (out-Element e)
