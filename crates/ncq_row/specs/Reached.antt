-- Which elements a path reaches.
use Rattle.std.specs.Prelude.{ℕ, Bool, if◌then◌else◌, List, [], ◌∷◌, ◌++◌, map}
use Rattle.std.specs.List.{filter, flat_map}
use Rattle.ncq_path.specs.declared.path.Path.{Path}
use Rattle.ncq_path.specs.Deciding.{in_path}
use Rattle.ncq_tree.specs.declared.model.Attribute.{Attribute}
use Rattle.ncq_tree.specs.declared.model.Element.{Element}
use Rattle.ncq_tree.specs.declared.model.Node.{Node}
use Rattle.ncq_tree.specs.Nodes.{by_nodes}

-- an element with the names that lead down to it, its own the last
abbrev pub Place : Type 0
Place = List (List ℕ) × Element

-- a text is no element
abbrev pub no_places : List ℕ → List Place
no_places text = []

-- one more name above a place
abbrev pub under : List ℕ → Place → Place
under name place = (name ∷ place.0, place.1)

-- the element, and the places below it
abbrev pub element_places : List ℕ → List Attribute → List (Node × List Place) → List Place
element_places name attributes below =
    (name ∷ [], record { name = name; attributes = attributes; children = map (λ p. p.0) below })
    ∷ map (under name) (flat_map (λ p. p.1) below)

-- the elements at and below a node, in document order, each with the names from the node down to it
unfoldable pub places : Node → List Place
places = by_nodes no_places element_places

-- whether the path leads to the place, behind these names
abbrev pub leads_to : Path → List (List ℕ) → Place → Bool
leads_to path tags place = in_path path (tags ++ place.0)

-- the elements at and below the nodes to which the path leads, behind these names
abbrev pub reached_behind : Path → List (List ℕ) → List Node → List Element
reached_behind path tags nodes =
    map (λ p. p.1) (filter (leads_to path tags) (flat_map places nodes))

-- The elements at and below the nodes that a path reaches: those where the names from the node down
-- to them, both included, are in the path, in document order.
abbrev pub reached : Path → List Node → List Element
reached path nodes = reached_behind path [] nodes

-- Which elements a part may choose at an element: the element itself where the empty list is in the
-- path, and those below it where the names from its child down to them are.
abbrev pub reached_from : Path → Element → List Element
reached_from path e = (if in_path path [] then e ∷ [] else []) ++ reached path e.children
