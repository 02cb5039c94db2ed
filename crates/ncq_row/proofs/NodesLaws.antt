-- Nodes as they are kept.
use Rattle.std.proofs.Common.{◌≡◌, List, [], ◌∷◌, ◌++◌, ℕ, sym, ap, ◌∙◌, append-nil}
use Rattle.std.specs.Prelude.{◌↔◌}
use Rattle.ncq_tree.specs.declared.model.Element.{Element}
use Rattle.ncq_tree.specs.declared.model.Node.{Node}
use Rattle.ncq_tree.specs.declared.model.Node.TheVariants.{Text as text_node, rolls-Element}
use Rattle.ncq_tree.specs.declared.model.Node.TheVariants.{Element as element_node}
use Rattle.ncq_tree.specs.declared.model.Node.TheViews.{out-Node, out-roll-Node}
use Rattle.ncq_tree.specs.declared.model.Node.TheOpen.{Node-F}
use Rattle.ncq_tree.specs.declared.model.Node.TheOpen.Node-F.{Text as Inside, Element as Inner}
use Rattle.ncq_tree.specs.Texts.{Strings, joined, string_value, texts_of}
use Rattle.ncq_tree.proofs.Texts.{texts_element, texts_text}

-- the element that a node is, or this one of a text
abbrev element_or : Element → Node-F Node Element → Element
element_or d (Inner e) = e
element_or d (Inside text) = d

element_or_is : (d e : Element) → element_or d (out-Node (element_node e)) ≡ e
element_or_is d e =
    ap (λ n. element_or d (out-Node n)) (sym (rolls-Element e)) ∙ ap (element_or d) (out-roll-Node (Inner e))

-- as nodes two elements are one only where they are one
pub same_element : (d e : Element) → element_node d ≡ element_node e → d ≡ e
same_element d e h =
    sym (element_or_is d d) ∙ ap (λ n. element_or d (out-Node n)) h ∙ element_or_is d e

-- and so are nodes that each of them is alone
pub elements_alone : (d e : Element) → (d ≡ e) ↔ (element_node d ∷ [] ≡ element_node e ∷ [])
elements_alone d e = (
  λ h. ap (λ (x : Element). element_node x ∷ []) h,
  λ h. same_element d e (ap (first_or (element_node d)) h),
)
  where
    first_or : Node → List Node → Node
    first_or n [] = n
    first_or n (m ∷ more) = m

-- one text is its own string value
pub string_of_text : (text : List ℕ) → string_value (text_node text ∷ []) ≡ text
string_of_text text =
    ap (λ (v : Strings). joined (v ++ [])) (texts_text text) ∙ append-nil text

-- an element alone has the string value of its children
pub string_of_element : (e : Element) → string_value (element_node e ∷ [])
    ≡ string_value e.children
string_of_element e =
    ap joined (append-nil (texts_of (element_node e)) ∙ texts_element e)

pub ruleset string_is = (string_of_text, string_of_element)
