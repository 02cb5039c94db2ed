-- The element that a shape is matched with. Only the crate's private clauses cite it.
use Rattle.std.specs.Prelude.{◌≡◌}
use Rattle.ncq_tree.specs.declared.model.Element.{Element}
use Rattle.ncq_row.specs.declared.subject.Subject.{Subject}
use Rattle.ncq_row.specs.declared.subject.Subject.TheVariants.{Lone, Shared}

-- the element, shared or not
abbrev pub element_of : Subject → Element
element_of (Lone element) = element.now
element_of (Shared written element) = element.now

-- the tree of a shared element is that element
abbrev pub IsSubject : Subject → Type 0
IsSubject (Lone element) = Unit {0}
IsSubject (Shared written element) = element.now ≡ written.now
