-- The template by slots makes the nodes of the template by variables.
use Rattle.std.specs.List.{list_all}
use Rattle.std.proofs.lemmas.List.Folds.{list_all-map}
use Rattle.std.proofs.Common.{◌≡◌, ◌&&◌, ℕ, Bool, true, List, [], ◌∷◌, ◌++◌, map, refl, sym, ap, ◌∙◌, subst}
use Rattle.std.specs.List.{flat_map}
use Rattle.ncq_tree.specs.declared.model.Node.{Node}
use Rattle.ncq_tree.specs.declared.model.Attribute.{Attribute}
use Rattle.ncq_tree.specs.declared.model.Node.TheVariants.{Text as text_node, Element as element_node}
use Rattle.ncq_row.specs.declared.value.Value.{Value}
use Rattle.ncq_row.specs.Values.{value_text}
use Rattle.ncq_row.specs.Values.{value_at}
use Rattle.ncq_plan.proofs.Lists.{map-map}
use Rattle.std.proofs.lemmas.List.Folds.{flat_map-map}
use Rattle.ncq_plan.specs.declared.template.SlotTemplate.{SlotTemplate}
use Rattle.ncq_plan.specs.declared.template.SlotTemplate.TheVariants as slotted
use Rattle.ncq_plan.specs.Templates.{value_nodes, text_of, attribute_of, forest_of}
use Rattle.ncq_plan.proofs.TemplateLaws.{forest_of_slot, forest_of_text, forest_of_element}
use Rattle.ncq_xmlql.specs.declared.model.Operand.{Operand}
use Rattle.ncq_xmlql.specs.declared.model.Operand.TheVariants as operand
use Rattle.ncq_xmlql.specs.declared.model.TemplateAttribute.{TemplateAttribute}
use Rattle.ncq_xmlql.specs.declared.model.Template.{Template}
use Rattle.ncq_xmlql.specs.declared.model.Template.TheVariants.{Variable, Literal, Element, rolls-Variable, rolls-Literal, rolls-Element}
use Rattle.ncq_xmlql.specs.declared.model.Template.TheViews.{roll-Template}
use Rattle.ncq_xmlql.specs.declared.model.Template.TheOpen.{Template-F}
use Rattle.ncq_xmlql.specs.declared.model.Template.TheOpen.Template-F.{Variable as VariableLayer, Literal as LiteralLayer, Element as ElementLayer}
use Rattle.ncq_xmlql.specs.declared.model.Template.TheFolds.{para-Template, para-roll-Template, ind-Template, map-Template}
use Rattle.ncq_bind.specs.Bound.{is_bound, operand_is_bound, template_bound_layer, template_is_bound}
use Rattle.ncq_bind.specs.Answers.{operand_text, made_attribute, template_layer, made_nodes}
use Rattle.ncq_bind.specs.NormalQueries.{slot_text_of, slot_attribute_of, slot_layer, slot_template}

-- ---- induction over templates

module _ (P : Template → Type 0)
    (variables : (x : List ℕ) → P (Variable x))
    (literals : (text : List ℕ) → P (Literal text))
    (elements : (tag : List ℕ) (attributes : List TemplateAttribute) (below : List ((t : Template) × P t)) → P (Element tag attributes (map (λ e. e.0) below)))
  where
    layer : (x : Template-F ((t : Template) × P t)) → P (roll-Template (map-Template _ _ (λ e. e.0) x))
    layer (VariableLayer x) = subst P (sym (rolls-Variable x)) (variables x)
    layer (LiteralLayer text) = subst P (sym (rolls-Literal text)) (literals text)
    layer (ElementLayer tag attributes below) = subst P (sym (rolls-Element tag attributes (map (λ e. e.0) below))) (elements tag attributes below)

    pub templates_induction : (t : Template) → P t
    templates_induction = ind-Template P (λ x y e. subst (λ w. P (roll-Template w)) e (layer y))

-- ---- the two, by the variants of a template

pub slotted_variable : (first : List ℕ → ℕ) (x : List ℕ) → slot_template first (Variable x) ≡ slotted.Slot (first x)
unfolding slot_template
slotted_variable first x = ap (para-Template SlotTemplate (slot_layer first)) (sym (rolls-Variable x)) ∙ para-roll-Template SlotTemplate (slot_layer first) (VariableLayer x)

pub slotted_literal : (first : List ℕ → ℕ) (text : List ℕ) → slot_template first (Literal text) ≡ slotted.Text text
unfolding slot_template
slotted_literal first text = ap (para-Template SlotTemplate (slot_layer first)) (sym (rolls-Literal text)) ∙ para-roll-Template SlotTemplate (slot_layer first) (LiteralLayer text)

pub slotted_element : (first : List ℕ → ℕ) (tag : List ℕ) (attributes : List TemplateAttribute) (content : List Template)
    → slot_template first (Element tag attributes content) ≡ slotted.Element tag (map (slot_attribute_of first) attributes) (map (slot_template first) content)
unfolding slot_template
slotted_element first tag attributes content =
    ap (para-Template SlotTemplate (slot_layer first)) (sym (rolls-Element tag attributes content))
    ∙ para-roll-Template SlotTemplate (slot_layer first) (ElementLayer tag attributes content)
    ∙ ap (slotted.Element tag (map (slot_attribute_of first) attributes)) (map-map (λ (t : Template × SlotTemplate). t.1) (λ (t : Template). (t, slot_template first t)) content)

pub made_variable : (value : List ℕ → Value) (x : List ℕ) → made_nodes value (Variable x) ≡ value_nodes (value x)
unfolding made_nodes
made_variable value x = ap (para-Template (List Node) (template_layer value)) (sym (rolls-Variable x)) ∙ para-roll-Template (List Node) (template_layer value) (VariableLayer x)

pub made_literal : (value : List ℕ → Value) (text : List ℕ) → made_nodes value (Literal text) ≡ text_node text ∷ []
unfolding made_nodes
made_literal value text = ap (para-Template (List Node) (template_layer value)) (sym (rolls-Literal text)) ∙ para-roll-Template (List Node) (template_layer value) (LiteralLayer text)

abbrev element_of : List ℕ → List Attribute → List Node → List Node
element_of tag attributes below = element_node (record { name = tag; attributes = attributes; children = below }) ∷ []

pub made_element : (value : List ℕ → Value) (tag : List ℕ) (attributes : List TemplateAttribute) (content : List Template)
    → made_nodes value (Element tag attributes content) ≡ element_of tag (map (made_attribute value) attributes) (flat_map (made_nodes value) content)
unfolding made_nodes
made_element value tag attributes content =
    ap (para-Template (List Node) (template_layer value)) (sym (rolls-Element tag attributes content))
    ∙ para-roll-Template (List Node) (template_layer value) (ElementLayer tag attributes content)
    ∙ ap (element_of tag (map (made_attribute value) attributes)) (flat_map-map (λ (t : Template × List Node). t.1) (λ (t : Template). (t, made_nodes value t)) content)

-- the template by slots, by the variant of the template
pub ruleset slotted_are = (slotted_variable, slotted_literal, slotted_element)

pub bound_variable : (places : List Operand) (x : List ℕ) → template_is_bound places (Variable x) ≡ is_bound places x
unfolding template_is_bound
bound_variable places x = ap (para-Template Bool (template_bound_layer places)) (sym (rolls-Variable x)) ∙ para-roll-Template Bool (template_bound_layer places) (VariableLayer x)

pub bound_literal : (places : List Operand) (text : List ℕ) → template_is_bound places (Literal text) ≡ true
unfolding template_is_bound
bound_literal places text = ap (para-Template Bool (template_bound_layer places)) (sym (rolls-Literal text)) ∙ para-roll-Template Bool (template_bound_layer places) (LiteralLayer text)

pub bound_element : (places : List Operand) (tag : List ℕ) (attributes : List TemplateAttribute) (content : List Template)
    → template_is_bound places (Element tag attributes content) ≡ (list_all (λ a. operand_is_bound places a.value) attributes && list_all (template_is_bound places) content)
unfolding template_is_bound
bound_element places tag attributes content =
    ap (para-Template Bool (template_bound_layer places)) (sym (rolls-Element tag attributes content))
    ∙ para-roll-Template Bool (template_bound_layer places) (ElementLayer tag attributes content)
    ∙ ap (λ (b : Bool). list_all (λ a. operand_is_bound places a.value) attributes && b)
    (list_all-map (λ (t : Template × Bool). t.1) (λ (t : Template). (t, template_is_bound places t)) content)

-- whether a template is bound, by its variant
pub ruleset bound_are = (bound_variable, bound_literal, bound_element)

-- ---- they make the same

module _ (row : List Value) (first : List ℕ → ℕ) (value : List ℕ → Value) (ties : (x : List ℕ) → value_at row (first x) ≡ value x) where
  abbrev Made : Template → Type 0
  Made t = forest_of row (slot_template first t) ≡ made_nodes value t

  text_made : (o : Operand) → text_of row (slot_text_of first o) ≡ operand_text value o
  text_made (operand.Variable x) = ap value_text (ties x)
  text_made (operand.Literal text) = refl

  attributes_made : (attributes : List TemplateAttribute) → map (attribute_of row) (map (slot_attribute_of first) attributes) ≡ map (made_attribute value) attributes
  attributes_made [] = refl
  attributes_made (a ∷ attributes) = λ i. record { name = a.name; value = text_made a.value i } ∷ attributes_made attributes i

  variable_made : (x : List ℕ) → Made (Variable x)
  variable_made x = ap (forest_of row) (slotted_variable first x) ∙ forest_of_slot row (first x) ∙ ap value_nodes (ties x) ∙ sym (made_variable value x)

  literal_made : (text : List ℕ) → Made (Literal text)
  literal_made text = ap (forest_of row) (slotted_literal first text) ∙ forest_of_text row text ∙ sym (made_literal value text)

  children_made : (below : List ((t : Template) × Made t)) → flat_map (forest_of row) (map (slot_template first) (map (λ b. b.0) below)) ≡ flat_map (made_nodes value) (map (λ b. b.0) below)
  children_made [] = refl
  children_made (b ∷ below) = λ i. b.1 i ++ children_made below i

  element_made : (tag : List ℕ) (attributes : List TemplateAttribute) (below : List ((t : Template) × Made t)) → Made (Element tag attributes (map (λ b. b.0) below))
  element_made tag attributes below =
      ap (forest_of row) (slotted_element first tag attributes (map (λ b. b.0) below))
      ∙ forest_of_element row tag (map (slot_attribute_of first) attributes) (map (slot_template first) (map (λ b. b.0) below))
      ∙ (λ i. element_of tag (attributes_made attributes i) (children_made below i))
      ∙ sym (made_element value tag attributes (map (λ b. b.0) below))

  pub nodes_made : (t : Template) → Made t
  nodes_made = templates_induction Made variable_made literal_made element_made
