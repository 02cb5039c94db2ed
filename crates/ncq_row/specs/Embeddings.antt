-- The rows of a shape: the values that an element has at the places of the shape, once for each
-- embedding.
use Rattle.std.specs.Prelude.{ℕ, if◌then◌else◌, List, [], ◌∷◌, ◌++◌, map}
use Rattle.std.specs.List.{flat_map}
use Rattle.std.specs.Str.{bytes_eq}
use Rattle.ncq_path.specs.declared.path.Path.{Path}
use Rattle.ncq_tree.specs.declared.model.Attribute.{Attribute}
use Rattle.ncq_tree.specs.declared.model.Element.{Element}
use Rattle.ncq_tree.specs.declared.model.Node.{Node}
use Rattle.ncq_tree.specs.declared.model.Node.TheVariants.{Element as element_node}
use Rattle.ncq_row.specs.declared.shape.Shape.{Shape}
use Rattle.ncq_row.specs.declared.shape.ShapeContent.{ShapeContent}
use Rattle.ncq_row.specs.declared.shape.ShapeSuffix.{ShapeSuffix}
use Rattle.ncq_row.specs.declared.shape.ShapeSuffix.TheVariants.{Plain, Element as WholeElement}
use Rattle.ncq_row.specs.declared.shape.ShapeSuffix.TheVariants.{Content}
use Rattle.ncq_row.specs.declared.value.Value.{Value}
use Rattle.ncq_row.specs.declared.value.Value.TheVariants.{Text, Nodes}
use Rattle.ncq_row.specs.Reached.{reached, reached_from}
use Rattle.ncq_row.specs.Shapes.{by_shapes, by_contents}

-- a value for each place
abbrev pub Row : Type 0
Row = List Value

abbrev pub Rows : Type 0
Rows = List Row

-- each row of the one with each of the other behind it; the first varies slowest
abbrev pub paired : Rows → Rows → Rows
paired lefts rights = flat_map (λ left. map (λ right. left ++ right) rights) lefts

-- one row of each, in order, joined to one row
abbrev pub one_of_each : List Rows → Rows
one_of_each [] = [] ∷ []
one_of_each (rows ∷ more) = paired rows (one_of_each more)

-- the value of the attribute of this name, where there is one
abbrev pub attribute_rows : List Attribute → List ℕ → Rows
attribute_rows [] name = []
attribute_rows (a ∷ more) name =
    if bytes_eq a.name name then (Text a.value ∷ []) ∷ [] else attribute_rows more name

-- the element or its children, where the suffix takes them
abbrev pub suffix_rows : ShapeSuffix → Element → Rows
suffix_rows Plain e = [] ∷ []
suffix_rows WholeElement e = (Nodes (element_node e ∷ []) ∷ []) ∷ []
suffix_rows Content e = (Nodes e.children ∷ []) ∷ []

-- the values of the attributes, then those of the content, whose rows are given, then that of the
-- suffix
abbrev pub shape_rows : Path → List (List ℕ) → (Element → Rows) → ShapeSuffix → Element → Rows
shape_rows path attributes content suffix e =
    paired (one_of_each (map (attribute_rows e.attributes) attributes))
    (paired (content e) (suffix_rows suffix e))

-- of parts, each of which is given with the rows that it has at an element: for each part one of
-- the elements that it reaches
abbrev pub parts_rows : List (Shape × (Element → Rows)) → Element → Rows
parts_rows below e = one_of_each (map (λ p. flat_map p.1 (reached_from p.0.tag e)) below)

-- the children
abbrev pub value_rows : Element → Rows
value_rows e = (Nodes e.children ∷ []) ∷ []

-- the rows of a shape that is embedded at this element, wherever its path leads
abbrev pub rows_at : Shape → Element → Rows
rows_at = by_shapes shape_rows parts_rows value_rows

-- the rows of a content at this element
abbrev pub content_rows : ShapeContent → Element → Rows
content_rows = by_contents shape_rows parts_rows value_rows

-- the rows of a shape at the elements that it reaches among the nodes
abbrev pub rows_among : Shape → List Node → Rows
rows_among shape nodes = flat_map (rows_at shape) (reached shape.tag nodes)

-- the rows of a part at the elements that it may choose at an element
abbrev pub rows_from : Shape → Element → Rows
rows_from shape e = flat_map (rows_at shape) (reached_from shape.tag e)

-- The rows of a shape in an element, one for each embedding: its values at the places of the shape
-- in reading order.
abbrev pub rows_of : Shape → Element → Rows
rows_of shape e = rows_among shape (element_node e ∷ [])
