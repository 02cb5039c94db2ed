-- The sections of a batch and the portions of a change as the code keeps them: one alone stands in
-- the value itself. Only the crate's private clauses cite it.
use Rattle.std.specs.Prelude.{List, [], ◌∷◌}
use Rattle.ncq_source.specs.declared.batch.FewSections.{FewSections}
use Rattle.ncq_source.specs.declared.batch.FewSections.TheVariants as sections
use Rattle.ncq_source.specs.declared.change.Portion.{Portion}
use Rattle.ncq_source.specs.declared.change.Portions.{Portions}
use Rattle.ncq_source.specs.declared.change.Portions.TheVariants as portions
use Rattle.ncq_source.specs.declared.change.Section.{Section}

-- the list of the sections
abbrev pub sections_in : FewSections → List Section
sections_in sections.Empty = []
sections_in (sections.One section) = section ∷ []
sections_in (sections.Several some) = some.items

-- the list of the portions
abbrev pub portions_in : Portions → List Portion
portions_in (portions.One portion) = portion ∷ []
portions_in (portions.Several some) = some.items
