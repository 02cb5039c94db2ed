-- The canonical lines of a forest, and the forests that can be read again from them.
use Rattle.std.specs.Prelude.{ℕ, ◌+◌, Bool, true, ◌&&◌, not, max, List, [], ◌∷◌, ◌++◌, map}
use Rattle.std.specs.List.{flat_map, list_all}
use Rattle.ncq_tree.specs.declared.model.Attribute.{Attribute}
use Rattle.ncq_tree.specs.declared.model.Element.{Element}
use Rattle.ncq_tree.specs.declared.model.Node.{Node}
use Rattle.ncq_tree.specs.declared.model.Node.TheVariants.{Element as element_node}
use Rattle.ncq_tree.specs.Nodes.{by_nodes}
pub use Rattle.ncq_base.specs.Lines.{ended, text_of as bytes_of_lines}
use Rattle.ncq_base.specs.Escapes.{escaped}
use Rattle.ncq_base.specs.Names.{is_pyx_name}
use Rattle.ncq_tree.specs.Normal.{has_name, is_normal, node_is_normal, whole_normal}

-- `A`, the name, one space and the escaped value
abbrev pub attribute_line : Attribute → List ℕ
attribute_line a = 65 ∷ (a.name ++ 32 ∷ escaped a.value)

-- `-` and the escaped text
abbrev pub text_lines : List ℕ → List (List ℕ)
text_lines text = (45 ∷ escaped text) ∷ []

-- the opening line, the attributes, the lines of the children, which are given, and the closing
-- line
abbrev pub element_lines : List ℕ → List Attribute → List (Node × List (List ℕ)) → List (List ℕ)
element_lines name attributes below = (40 ∷ name)
    ∷ (map attribute_line attributes ++ (flat_map (λ p. p.1) below ++ (41 ∷ name) ∷ []))

-- the lines of a node
abbrev pub node_lines : Node → List (List ℕ)
node_lines = by_nodes text_lines element_lines

-- the lines of a forest
abbrev pub canonical : List Node → List (List ℕ)
canonical forest = flat_map node_lines forest

-- the canonical bytes of a forest
abbrev pub pyx : List Node → List ℕ
pyx forest = bytes_of_lines (canonical forest)

-- the canonical bytes of the normal form of an element
abbrev pub written_lines : Element → List ℕ
written_lines e = bytes_of_lines (node_lines (element_node (whole_normal e)))

-- attribute names that are PYX names, and none twice
abbrev pub are_good : List Attribute → List Attribute → Bool
are_good given [] = true
are_good given (a ∷ more) = is_pyx_name a.name && not (has_name given a.name)
    && are_good (given ++ a ∷ []) more

-- of a text
abbrev pub text_is_good : List ℕ → Bool
text_is_good text = true

-- of an element whose children are given, each with whether it is good
abbrev pub element_is_good : List ℕ → List Attribute → List (Node × Bool) → Bool
element_is_good name attributes below = is_pyx_name name && are_good [] attributes
    && list_all (λ p. p.1) below

-- all names are PYX names, and no element has two attributes of one name
abbrev pub is_good : Node → Bool
is_good = by_nodes text_is_good element_is_good

-- the greatest of the numbers, or 0
abbrev pub greatest : List ℕ → ℕ
greatest [] = 0
greatest (n ∷ more) = max n (greatest more)

-- of a text
abbrev pub text_depth : List ℕ → ℕ
text_depth text = 0

-- of an element whose children are given, each with its depth
abbrev pub element_depth : List ℕ → List Attribute → List (Node × ℕ) → ℕ
element_depth name attributes below = greatest (map (λ p. p.1) below) + 1

-- how many elements are open in one another
abbrev pub depth : Node → ℕ
depth = by_nodes text_depth element_depth

-- its name is a PYX name
abbrev pub has_good_name : Attribute → Bool
has_good_name a = is_pyx_name a.name

-- of a text
abbrev pub text_is_named : List ℕ → Bool
text_is_named text = true

-- of an element whose children are given, each with whether its names are PYX names
abbrev pub element_is_named : List ℕ → List Attribute → List (Node × Bool) → Bool
element_is_named name attributes below = is_pyx_name name && list_all has_good_name attributes
    && list_all (λ p. p.1) below

-- all names are PYX names
abbrev pub is_named : Node → Bool
is_named = by_nodes text_is_named element_is_named

-- proper: normal, and all names are PYX names
abbrev pub is_proper : List Node → Bool
is_proper forest = is_normal forest && list_all is_named forest
