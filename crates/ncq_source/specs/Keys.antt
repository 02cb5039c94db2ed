-- The key of an element.
use Rattle.std.specs.Prelude.{ℕ, if◌then◌else◌, List, [], ◌∷◌, map, Option, Some, None}
use Rattle.std.specs.List.{flat_map}
use Rattle.std.specs.Str.{bytes_eq}
use Rattle.ncq_tree.specs.declared.model.Attribute.{Attribute}
use Rattle.ncq_tree.specs.declared.model.Element.{Element}
use Rattle.ncq_tree.specs.declared.model.Node.{Node}
use Rattle.ncq_tree.specs.Nodes.{by_nodes}
use Rattle.ncq_tree.specs.Texts.{string_value}
use Rattle.ncq_source.specs.declared.key.Key.{Key}
use Rattle.ncq_source.specs.declared.key.Key.TheVariants.{Child, Attribute as OfAttribute}

-- byte strings
abbrev pub Strings : Type 0
Strings = List (List ℕ)

-- a text has no key value
abbrev pub no_strings : List ℕ → Strings
no_strings text = []

-- the string value of an element of this name
abbrev pub value_if_named : List ℕ → List ℕ → List Attribute → List (Node × Strings) → Strings
value_if_named wanted name attributes below
    = if bytes_eq wanted name then string_value (map (λ p. p.0) below) ∷ [] else []

-- the string values of a node that is an element of this name
abbrev pub child_keys : List ℕ → Node → Strings
child_keys wanted = by_nodes no_strings (value_if_named wanted)

-- the value of an attribute of this name
abbrev pub attribute_keys : List ℕ → Attribute → Strings
attribute_keys wanted attribute = if bytes_eq wanted attribute.name then attribute.value ∷ []
    else []

-- a value that is not empty
abbrev pub not_empty : List ℕ → Option (List ℕ)
not_empty [] = None
not_empty (byte ∷ bytes) = Some (byte ∷ bytes)

-- the one value that is not empty, behind one that was found
abbrev pub only_behind : Option (List ℕ) → Strings → Option (List ℕ)
only_behind None [] = None
only_behind None (value ∷ values) = only_behind (Some value) values
only_behind (Some found) [] = not_empty found
only_behind (Some found) (value ∷ values) = None

-- the one value, where there is exactly one and that is not empty
abbrev pub only : Strings → Option (List ℕ)
only = only_behind None

-- the key of an element by a rule
abbrev pub key_of : Key → Element → Option (List ℕ)
key_of (Child name) element = only (flat_map (child_keys name) element.children)
key_of (OfAttribute name) element = only (flat_map (attribute_keys name) element.attributes)
