-- The key values that a node has.
use Rattle.std.proofs.Common.{◌≡◌, ℕ, List, [], ◌∷◌, map, ap, ◌∙◌, refl, if◌then◌else◌}
use Rattle.std.specs.Str.{bytes_eq}
use Rattle.ncq_tree.specs.declared.model.Element.{Element}
use Rattle.ncq_tree.specs.declared.model.Node.{Node}
use Rattle.ncq_tree.specs.declared.model.Node.TheVariants.{Text as text_node, Element as element_node}
use Rattle.ncq_tree.specs.Nodes.{by_nodes_text, by_nodes_element}
use Rattle.ncq_tree.specs.Texts.{string_value}
use Rattle.ncq_source.specs.Keys.{child_keys, no_strings, value_if_named}

firsts : {A B : Type 0} (f : A → B) (xs : List A) → map (λ (p : A × B). p.0) (map (λ (x : A). (x, f x)) xs) ≡ xs
firsts f [] = refl
firsts f (x ∷ xs) = ap (λ ys. x ∷ ys) (firsts f xs)

pub child_keys_text : (wanted text : List ℕ) → child_keys wanted (text_node text) ≡ []
child_keys_text wanted text = by_nodes_text no_strings (value_if_named wanted) text

pub child_keys_element : (wanted : List ℕ) (e : Element) → child_keys wanted (element_node e) ≡ (if bytes_eq wanted e.name then string_value e.children ∷ [] else [])
child_keys_element wanted e =
    by_nodes_element no_strings (value_if_named wanted) e
    ∙ ap (λ (nodes : List Node). if bytes_eq wanted e.name then string_value nodes ∷ [] else []) (firsts (child_keys wanted) e.children)
