-- Induction over nodes, with the children as a list.
use Rattle.std.proofs.Common.{ℕ, List, map, sym, subst}
use Rattle.ncq_tree.specs.declared.model.Attribute.{Attribute}
use Rattle.ncq_tree.specs.declared.model.Node.{Node}
use Rattle.ncq_tree.specs.declared.model.Node.TheVariants.{Text as text_node, Element as element_node, rolls-Text, rolls-Element}
use Rattle.ncq_tree.specs.declared.model.Element.{Element}
use Rattle.ncq_tree.specs.declared.model.Node.TheOpen.{Node-F}
use Rattle.ncq_tree.specs.declared.model.Node.TheOpen.Node-F.{Text, Element as Inner}
use Rattle.ncq_tree.specs.declared.model.Node.TheFolds.{ind-Node, map-Node}
use Rattle.ncq_tree.specs.declared.model.Node.TheViews.{roll-Node, roll-Element}

module _ (P : Node → Type 0)
    (texts : (text : List ℕ) → P (text_node text))
    (elements : (name : List ℕ) (attributes : List Attribute) (below : List ((n : Node) × P n)) → P (element_node (record { name = name; attributes = attributes; children = map (λ e. e.0) below })))
  where
    layer : (x : Node-F ((n : Node) × P n) ((e : Element) × P (element_node e))) → P (roll-Node (map-Node _ _ _ _ (λ e. e.0) (λ e. e.0) x))
    layer (Text s) = subst P (sym (rolls-Text s)) (texts s)
    layer (Inner d) = subst P (sym (rolls-Element d.0)) d.1

    pub nodes_induction : (x : Node) → P x
    nodes_induction = ind-Node P (λ e. P (element_node e))
        (λ x y e. subst (λ w. P (roll-Node w)) e (layer y))
        (λ x y e. subst (λ w. P (element_node (roll-Element w))) e (elements y.name y.attributes y.children))
