-- Templates that make the same of two rows.
use Rattle.std.proofs.Common.{◌≡◌, List, ℕ, map, sym, ◌∙◌}
use Rattle.std.specs.List.{flat_map}
use Rattle.ncq_tree.specs.declared.model.Node.TheVariants.{Text as text_node, Element as element_node}
use Rattle.std.specs.Prelude.{[], ◌∷◌}
use Rattle.ncq_row.specs.Embeddings.{Row}
use Rattle.ncq_plan.specs.declared.template.SlotAttribute.{SlotAttribute}
use Rattle.ncq_plan.specs.declared.template.SlotTemplate.{SlotTemplate}
use Rattle.ncq_plan.specs.declared.template.SlotTemplate.TheVariants.{Text, Element}
use Rattle.ncq_plan.specs.Templates.{attribute_of, forest_of}
use Rattle.ncq_plan.proofs.CallerLemmas.{forest_of_slot, forest_of_text, forest_of_element}

module _ (row other : Row) where
  -- one text
  pub same_text : (a b : List ℕ) → a ≡ b → forest_of row (Text a) ≡ forest_of other (Text b)
  same_text a b e = forest_of_text row a ∙ (λ i. text_node (e i) ∷ []) ∙ sym (forest_of_text other b)

  -- one tag, the same attributes and the same content
  pub same_element : (tag tag' : List ℕ) (bs bs' : List SlotAttribute) (cs cs' : List SlotTemplate)
      → tag ≡ tag' → map (attribute_of row) bs ≡ map (attribute_of other) bs' → flat_map (forest_of row) cs ≡ flat_map (forest_of other) cs'
      → forest_of row (Element tag bs cs) ≡ forest_of other (Element tag' bs' cs')
  same_element tag tag' bs bs' cs cs' t a c =
      forest_of_element row tag bs cs
      ∙ (λ i. element_node (record { name = t i; attributes = a i; children = c i }) ∷ [])
      ∙ sym (forest_of_element other tag' bs' cs')

-- what a template makes, by its variant, and where two make the same
pub ruleset makes_alike = (forest_of_slot, forest_of_text, forest_of_element, same_text, same_element)
