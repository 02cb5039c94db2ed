-- The element that canonical lines are of.
use Rattle.std.specs.Prelude.{◌≡◌, ℕ, true, List, [], ◌∷◌, length, Result, Ok, Err}
use Rattle.ncq_base.specs.Lines.{lines_in}
use Rattle.ncq_tree.specs.declared.model.Element.{Element}
use Rattle.ncq_tree.specs.declared.model.Node.TheVariants.{Element as element_node}
use Rattle.ncq_tree.specs.Normal.{node_is_normal}
use Rattle.ncq_pyx.specs.declared.item.Item.{Item}
use Rattle.ncq_pyx.specs.declared.item.Item.TheVariants.{Put, Remove}
use Rattle.ncq_pyx.specs.declared.error.PyxError.{PyxError}
use Rattle.ncq_pyx.specs.Canonical.{node_lines, bytes_of_lines, is_named}
use Rattle.ncq_pyx.specs.Faults.{block_of}

-- the element of lines that put none; no canonical lines are so
abbrev pub no_element : Element
no_element = record { name = []; attributes = []; children = [] }

abbrev pub first_put : List Item → Element
first_put [] = no_element
first_put (Put e ∷ more) = e
first_put (Remove key ∷ more) = no_element

abbrev pub put_in : Result (List Item) PyxError → Element
put_in (Ok items) = first_put items
put_in (Err why) = no_element

-- the element that the lines of a text put first, elements nested as deep as there are lines
abbrev pub element_of_lines : List (List ℕ) → Element
element_of_lines lines = put_in (block_of (length lines) lines)

abbrev pub element_in : List ℕ → Element
element_in text = element_of_lines (lines_in text)

-- the text is the canonical lines of a proper element, which is the one that it puts
pub record IsCanonical (text : List ℕ) : Type 0 where
  pub lines : bytes_of_lines (node_lines (element_node (element_in text))) ≡ text
  pub normal : node_is_normal (element_node (element_in text)) ≡ true
  pub named : is_named (element_node (element_in text)) ≡ true
