-- The texts of a forest, and its string value.
use Rattle.std.specs.Prelude.{ℕ, Bool, true, false, List, [], ◌∷◌, ◌++◌}
use Rattle.std.specs.List.{flat_map}
use Rattle.ncq_tree.specs.declared.model.Attribute.{Attribute}
use Rattle.ncq_tree.specs.declared.model.Node.{Node}
use Rattle.ncq_tree.specs.Nodes.{by_nodes}

-- byte strings in order
abbrev pub Strings : Type 0
Strings = List (List ℕ)

-- the text of a text
abbrev pub of_text : List ℕ → Strings
of_text text = text ∷ []

-- the texts of an element whose children are given, each with its texts
abbrev pub of_element : List ℕ → List Attribute → List (Node × Strings) → Strings
of_element name attributes below = flat_map (λ p. p.1) below

-- the texts of a node in document order
abbrev pub texts_of : Node → Strings
texts_of = by_nodes of_text of_element

-- the texts of a forest in document order
abbrev pub texts : List Node → Strings
texts forest = flat_map texts_of forest

-- each text with a space in front
abbrev pub spaced : Strings → List ℕ
spaced [] = []
spaced (text ∷ more) = 32 ∷ text ++ spaced more

-- the texts joined by one space
abbrev pub joined : Strings → List ℕ
joined [] = []
joined (text ∷ more) = text ++ spaced more

-- the texts of a forest in document order, joined by one space
abbrev pub string_value : List Node → List ℕ
string_value forest = joined (texts forest)

-- what the texts add behind others, if there are any, and else alone
abbrev pub following : Bool → Strings → List ℕ
following true texts = spaced texts
following false texts = joined texts

-- whether there is a text behind these
abbrev pub has_text : Bool → Strings → Bool
has_text before [] = before
has_text before (text ∷ more) = true
