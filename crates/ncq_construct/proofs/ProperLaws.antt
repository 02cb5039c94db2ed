-- What a template makes is good, and so its normal form is proper.
use Rattle.std.proofs.Common.{◌≡◌, ℕ, ◌&&◌, not, Bool, true, List, [], ◌∷◌, ◌++◌, map, refl}
use Rattle.std.proofs.Common.{sym, ap, ◌∙◌, subst, zero, suc}
use Rattle.std.specs.Prelude.{◌||◌, nat_eq}
use lib.Pointwise.{pointwise}
use Rattle.std.specs.List.{flat_map, list_all}
use Rattle.std.proofs.lemmas.Bool.{and_from}
use Rattle.std.proofs.lemmas.List.{map-append}
use Rattle.std.proofs.lemmas.List.Folds.{list_all-map}
use Rattle.ncq_base.proofs.Tests.{both_true}
use Rattle.ncq_base.specs.Names.{is_pyx_name}
use Rattle.ncq_tree.specs.declared.model.Node.{Node}
use Rattle.ncq_tree.specs.declared.model.Node.TheVariants.{Element as element_node}
use Rattle.ncq_tree.specs.declared.model.Element.{Element}
use Rattle.ncq_tree.specs.declared.model.Attribute.{Attribute}
use Rattle.ncq_tree.specs.Normal.{are_apart, has_name, node_is_normal, is_normal}
use Rattle.ncq_pyx.specs.Canonical.{are_good, is_good, is_named, is_proper}
use Rattle.ncq_pyx.proofs.CanonicalLaws.{good_element, good_text}
use Rattle.ncq_pyx.proofs.Proper.{proper_good}
use Rattle.ncq_pyx.proofs.ReadLaws.{good_proper}
use Rattle.ncq_row.specs.Embeddings.{Row}
use Rattle.ncq_row.specs.Values.{value_at}
use Rattle.ncq_row.specs.declared.value.Value.{Value}
use Rattle.ncq_row.specs.declared.value.Value.TheVariants.{Text as TextValue, Nodes}
use Rattle.ncq_plan.specs.declared.template.SlotAttribute.{SlotAttribute}
use Rattle.ncq_plan.specs.declared.template.SlotTemplate.{SlotTemplate}
use Rattle.ncq_plan.specs.declared.template.SlotTemplate.TheVariants.{Slot, Text}
use Rattle.ncq_plan.specs.declared.template.SlotTemplate.TheVariants.{Element as ElementTemplate}
use Rattle.ncq_plan.specs.declared.template.SlotTemplate.TheVariants.{rolls-Slot, rolls-Text}
use Rattle.ncq_plan.specs.declared.template.SlotTemplate.TheVariants.{rolls-Element}
use Rattle.ncq_plan.specs.declared.template.SlotTemplate.TheOpen.{SlotTemplate-F}
use Rattle.ncq_plan.specs.declared.template.SlotTemplate.TheOpen.SlotTemplate-F.{Slot as SlotLayer}
use Rattle.ncq_plan.specs.declared.template.SlotTemplate.TheOpen.SlotTemplate-F.{Text as TextLayer}
use Rattle.ncq_plan.specs.declared.template.SlotTemplate.TheOpen.SlotTemplate-F.{Element as ElementLayer}
use Rattle.ncq_plan.specs.declared.template.SlotTemplate.TheFolds.{para-SlotTemplate}
use Rattle.ncq_plan.specs.declared.template.SlotTemplate.TheFolds.{para-roll-SlotTemplate}
use Rattle.ncq_plan.specs.declared.template.SlotTemplate.TheFolds.{ind-SlotTemplate}
use Rattle.ncq_plan.specs.declared.template.SlotTemplate.TheFolds.{map-SlotTemplate}
use Rattle.ncq_plan.specs.declared.template.SlotTemplate.TheViews.{roll-SlotTemplate}
use Rattle.ncq_plan.specs.Templates.{attribute_of, constructed, forest_of, value_nodes}
use Rattle.ncq_plan.proofs.TemplateLaws.{forest_of_element, forest_of_slot, forest_of_text}
use Rattle.ncq_construct.specs.Proper.{attributes_are_named, named_layer, row_is_proper}
use Rattle.ncq_construct.specs.Proper.{template_is_named, value_is_proper}

pub slot_named : (slot : ℕ) → template_is_named (Slot slot) ≡ true
unfolding template_is_named
slot_named slot =
    ap (para-SlotTemplate Bool named_layer) (sym (rolls-Slot slot))
    ∙ para-roll-SlotTemplate Bool named_layer (SlotLayer slot)

pub text_named : (text : List ℕ) → template_is_named (Text text) ≡ true
unfolding template_is_named
text_named text =
    ap (para-SlotTemplate Bool named_layer) (sym (rolls-Text text))
    ∙ para-roll-SlotTemplate Bool named_layer (TextLayer text)

pub element_named : (tag : List ℕ) (attributes : List SlotAttribute) (content : List SlotTemplate)
    → template_is_named (ElementTemplate tag attributes content)
    ≡ (is_pyx_name tag && attributes_are_named attributes && list_all template_is_named content)
unfolding template_is_named
element_named tag attributes content =
    ap (para-SlotTemplate Bool named_layer) (sym (rolls-Element tag attributes content))
    ∙ para-roll-SlotTemplate Bool named_layer (ElementLayer tag attributes content)
    ∙ ap (λ (b : Bool). is_pyx_name tag && attributes_are_named attributes && b)
    (list_all-map (λ (t : SlotTemplate × Bool). t.1)
    (λ (t : SlotTemplate). (t, template_is_named t)) content)

-- names alone decide whether attributes are good
same_names : (r s : Row) (given : List SlotAttribute) (name : List ℕ)
    → has_name (map (attribute_of r) given) name ≡ has_name (map (attribute_of s) given) name
same_names r s [] name = refl
same_names r s (a ∷ given) name =
    ap (λ (b : Bool). pointwise nat_eq a.name name || b) (same_names r s given name)

good_by_names : (r s : Row) (given attributes : List SlotAttribute)
    → are_good (map (attribute_of r) given) (map (attribute_of r) attributes)
    ≡ are_good (map (attribute_of s) given) (map (attribute_of s) attributes)
good_by_names r s given [] = refl
good_by_names r s given (a ∷ more) =
    ap (λ (b : Bool). is_pyx_name a.name && not b && are_good
    (map (attribute_of r) given ++ attribute_of r a ∷ []) (map (attribute_of r) more))
    (same_names r s given a.name)
    ∙ ap (λ (b : Bool). is_pyx_name a.name && not (has_name (map (attribute_of s) given) a.name) &&
    b)
    (ap (λ (v : List Attribute). are_good v (map (attribute_of r) more))
    (sym (map-append (attribute_of r) given (a ∷ [])))
    ∙ good_by_names r s (given ++ a ∷ []) more
    ∙ ap (λ (v : List Attribute). are_good v (map (attribute_of s) more))
    (map-append (attribute_of s) given (a ∷ [])))

-- proper nodes are good
good_nodes : (nodes : List Node) → list_all node_is_normal nodes ≡ true → list_all is_named nodes
    ≡ true → list_all is_good nodes ≡ true
good_nodes [] h k = refl
good_nodes (node ∷ nodes) h k =
    let t = both_true (node_is_normal node) (list_all node_is_normal nodes) h in
    let u = both_true (is_named node) (list_all is_named nodes) k in
    and_from _ _ (proper_good node t.0 u.0) (good_nodes nodes t.1 u.1)

good_value : (value : Value) → value_is_proper value ≡ true → list_all is_good (value_nodes value)
    ≡ true
good_value (TextValue text) h = and_from _ _ (good_text text) refl
good_value (Nodes forest) h =
    let t = both_true (is_normal forest) (list_all is_named forest) h in
    good_nodes forest (both_true (are_apart forest) (list_all node_is_normal forest) t.0).1 t.1

proper_at : (row : Row) (slot : ℕ) → row_is_proper row ≡ true → value_is_proper (value_at row slot)
    ≡ true
proper_at [] slot h = refl
proper_at (value ∷ row) zero h = (both_true (value_is_proper value) (row_is_proper row) h).0
proper_at (value ∷ row) (suc slot) h =
    proper_at row slot (both_true (value_is_proper value) (row_is_proper row) h).1

good_append : (xs ys : List Node) → list_all is_good xs ≡ true → list_all is_good ys ≡ true
    → list_all is_good (xs ++ ys) ≡ true
good_append [] ys h k = k
good_append (x ∷ xs) ys h k =
    let t = both_true (is_good x) (list_all is_good xs) h in
    and_from _ _ t.0 (good_append xs ys t.1 k)

module _ (row : Row) (proper : row_is_proper row ≡ true) where
  abbrev IsMadeGood : SlotTemplate → Type 0
  IsMadeGood template = template_is_named template ≡ true
      → list_all is_good (forest_of row template) ≡ true

  good_content : (content : List ((t : SlotTemplate) × IsMadeGood t))
      → list_all template_is_named (map (λ e. e.0) content) ≡ true
      → list_all is_good (flat_map (forest_of row) (map (λ e. e.0) content)) ≡ true
  good_content [] h = refl
  good_content (t ∷ content) h =
      let u = both_true (template_is_named t.0)
      (list_all template_is_named
      (map (λ (e : (t : SlotTemplate) × IsMadeGood t). e.0) content)) h in
      good_append (forest_of row t.0)
      (flat_map (forest_of row) (map (λ (e : (t : SlotTemplate) × IsMadeGood t). e.0) content))
      (t.1 u.0) (good_content content u.1)

  good_made : (tag : List ℕ) (attributes : List SlotAttribute)
      (content : List ((t : SlotTemplate) × IsMadeGood t))
      → IsMadeGood (ElementTemplate tag attributes (map (λ e. e.0) content))
  good_made tag attributes content h =
      let below = map (λ (e : (t : SlotTemplate) × IsMadeGood t). e.0) content in
      let made : Element =
      record {
        name = tag;
        attributes = map (attribute_of row) attributes;
        children =
            flat_map (forest_of row) below;
      } in
      let t = both_true (is_pyx_name tag && attributes_are_named attributes)
      (list_all template_is_named below) (sym (element_named tag attributes below) ∙ h) in
      let u = both_true (is_pyx_name tag) (attributes_are_named attributes) t.0 in
      let good : is_good (element_node made) ≡ true =
      good_element made
      ∙ and_from _ _ (and_from _ _ u.0 (good_by_names row [] [] attributes ∙ u.1))
      (good_content content t.1) in
      ap (list_all is_good) (forest_of_element row tag attributes below) ∙ and_from _ _ good refl

  step : (x : SlotTemplate-F ((t : SlotTemplate) × IsMadeGood t))
      → IsMadeGood (roll-SlotTemplate (map-SlotTemplate _ _ (λ e. e.0) x))
  step (SlotLayer slot) =
      subst IsMadeGood (sym (rolls-Slot slot))
      (λ h. ap (list_all is_good) (forest_of_slot row slot)
      ∙ good_value (value_at row slot) (proper_at row slot proper))
  step (TextLayer text) =
      subst IsMadeGood (sym (rolls-Text text))
      (λ h. ap (list_all is_good) (forest_of_text row text) ∙ and_from _ _ (good_text text) refl)
  step (ElementLayer tag attributes content) =
      subst IsMadeGood
      (sym (rolls-Element tag attributes
      (map (λ (e : (t : SlotTemplate) × IsMadeGood t). e.0) content)))
      (good_made tag attributes content)

  pub made_is_good : (template : SlotTemplate) → IsMadeGood template
  made_is_good =
      ind-SlotTemplate IsMadeGood
      (λ x y e. subst (λ w. IsMadeGood (roll-SlotTemplate w)) e (step y))

pub constructed_is_proper : (template : SlotTemplate) (row : Row) → template_is_named template
    ≡ true → row_is_proper row ≡ true → is_proper (constructed template row) ≡ true
constructed_is_proper template row named proper =
    good_proper (forest_of row template) (made_is_good row proper template named)
