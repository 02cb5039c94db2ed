-- Normal forests, and the normal form of a forest.
use Rattle.std.specs.Prelude.{ℕ, ◌-◌, Bool, true, false, ◌&&◌, not, nat_eq, nat_lt, if◌then◌else◌}
use Rattle.std.specs.Prelude.{List, [], ◌∷◌, ◌++◌, take, drop, length, map, slice_index, Option}
use Rattle.std.specs.Prelude.{Some, None}
use Rattle.std.specs.List.{list_all, list_any, prefix_len, suffix_len}
use Rattle.std.specs.Ordering.{nat_cmp, is_lt}
use Rattle.std.specs.Cmp.Lexicographic.{slice_cmp}
use lib.Pointwise.{pointwise}
use Rattle.ncq_base.specs.Names.{is_space}
use Rattle.ncq_tree.specs.declared.model.Attribute.{Attribute}
use Rattle.ncq_tree.specs.declared.model.Element as one_element
use Rattle.ncq_tree.specs.declared.model.Node.{Node}
use Rattle.ncq_tree.specs.declared.model.Node.TheVariants.{Text, Element, Element'}
use Rattle.ncq_tree.specs.Nodes.{by_nodes}

-- not empty, and no white space at its ends
abbrev pub is_trim : List ℕ → Bool
is_trim text = nat_lt 0 (length text) && not (is_space (slice_index text 0))
    && not (is_space (slice_index text (length text - 1)))

-- whether the node is a text
abbrev pub is_text : Node → Bool
is_text (Text text) = true
is_text (Element' name attributes shape row) = false

-- no two texts are adjacent, and the first is none behind a text
abbrev pub are_apart_behind : Bool → List Node → Bool
are_apart_behind text [] = true
are_apart_behind text (node ∷ more) = not (text && is_text node)
    && are_apart_behind (is_text node) more

-- no two texts are adjacent
abbrev pub are_apart : List Node → Bool
are_apart = are_apart_behind false

-- a name stands before the next
abbrev pub is_before : Option (List ℕ) → List ℕ → Bool
is_before None name = true
is_before (Some last) name = is_lt (slice_cmp nat_cmp last name)

-- each name stands before the next, and the first behind this name, where there is one
abbrev pub are_rising_behind : Option (List ℕ) → List Attribute → Bool
are_rising_behind last [] = true
are_rising_behind last (attribute ∷ more) = is_before last attribute.name
    && are_rising_behind (Some attribute.name) more

-- sorted by name, and no name twice
abbrev pub are_rising : List Attribute → Bool
are_rising = are_rising_behind None

-- an element whose children are given, each with whether it is normal
abbrev pub element_is_normal : List ℕ → List Attribute → List (Node × Bool) → Bool
element_is_normal name attributes below = are_rising attributes
    && (are_apart (map (λ p. p.0) below) && list_all (λ p. p.1) below)

-- a text that is trimmed, or an element that is normal at every depth
abbrev pub node_is_normal : Node → Bool
node_is_normal = by_nodes is_trim element_is_normal

-- normal at every depth
abbrev pub is_normal : List Node → Bool
is_normal forest = are_apart forest && list_all node_is_normal forest

-- white space taken off both ends
abbrev pub trimmed : List ℕ → List ℕ
trimmed text = let front = drop (prefix_len is_space text) text
    in take (length front - suffix_len is_space front) front

-- the one text, or nothing in place of an empty one
abbrev pub text_nodes : List ℕ → List Node
text_nodes [] = []
text_nodes (b ∷ bytes) = Text (b ∷ bytes) ∷ []

-- texts between elements merged behind this one, trimmed, and dropped where nothing is left
abbrev pub tidy_behind : List ℕ → List Node → List Node
tidy_behind text [] = text_nodes (trimmed text)
tidy_behind text ((Text more) ∷ nodes) = tidy_behind (text ++ more) nodes
tidy_behind text ((Element' name attributes shape row) ∷ nodes) =
    text_nodes (trimmed text) ++ Element' name attributes shape row ∷ tidy_behind [] nodes

-- the nodes with their texts merged and trimmed
abbrev pub tidy : List Node → List Node
tidy = tidy_behind []

-- the name does not stand before the attribute's
abbrev pub not_before : List ℕ → Attribute → Bool
not_before name attribute = not (is_lt (slice_cmp nat_cmp name attribute.name))

-- the attribute put in front of the first whose name is greater
abbrev pub insert_by_name : Attribute → List Attribute → List Attribute
insert_by_name a [] = a ∷ []
insert_by_name a (b ∷ more) = if not_before a.name b then b ∷ insert_by_name a more
    else a ∷ b ∷ more

-- the attributes put one by one into those that are sorted already
abbrev pub sorted_onto : List Attribute → List Attribute → List Attribute
sorted_onto done [] = done
sorted_onto done (a ∷ more) = sorted_onto (insert_by_name a done) more

-- the attributes sorted by name
abbrev pub sorted : List Attribute → List Attribute
sorted = sorted_onto []

-- an element with its attributes sorted and its children in normal form
abbrev pub normal_element : List ℕ → List Attribute → List (Node × Node) → Node
normal_element name attributes below =
    Element (record {
      name = name;
      attributes = sorted attributes;
      children = tidy (map (λ p. p.1) below);
    })

-- a text as it is, or the normal form of an element
abbrev pub normal_of : Node → Node
normal_of = by_nodes Text normal_element

-- the normal form
abbrev pub normal : List Node → List Node
normal forest = tidy (map normal_of forest)

-- the normal form of an element
abbrev pub whole_normal : one_element.Element → one_element.Element
whole_normal e = record {
  name = e.name;
  attributes = sorted e.attributes;
  children = normal e.children;
}

-- one of the attributes has this name
abbrev pub has_name : List Attribute → List ℕ → Bool
has_name attributes name = list_any (λ a. pointwise nat_eq a.name name) attributes

-- no two of the attributes have one name
abbrev pub are_distinct : List Attribute → Bool
are_distinct [] = true
are_distinct (attribute ∷ more) = not (has_name more attribute.name) && are_distinct more

-- of a text
abbrev pub text_is_distinct : List ℕ → Bool
text_is_distinct text = true

-- of an element whose children are given, each with whether it is distinct
abbrev pub element_is_distinct : List ℕ → List Attribute → List (Node × Bool) → Bool
element_is_distinct name attributes below = are_distinct attributes && list_all (λ p. p.1) below

-- at every depth no element has two attributes of one name
abbrev pub node_is_distinct : Node → Bool
node_is_distinct = by_nodes text_is_distinct element_is_distinct
