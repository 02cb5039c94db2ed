-- The template of a normal query has the names of the statement's template.
use Rattle.std.proofs.Common.{◌≡◌, ℕ, Bool, true, false, List, [], ◌∷◌, ◌++◌, map, refl, sym, ap, ◌∙◌, ◌&&◌, ◌||◌, not}
use Rattle.std.specs.Str.{bytes_eq}
use Rattle.std.specs.List.{list_all}
use Rattle.std.proofs.lemmas.Bool.{and_from}
use Rattle.std.proofs.lemmas.Cmp.{nat_list_eq_equiv}
use Rattle.std.proofs.lemmas.List.Folds.{list_any-append}
use Rattle.ncq_base.specs.Names.{is_pyx_name}
use Rattle.ncq_tree.specs.declared.model.Attribute.{Attribute}
use Rattle.ncq_tree.specs.Normal.{has_name}
use Rattle.ncq_pyx.specs.Canonical.{are_good}
use Rattle.ncq_plan.specs.Templates.{attribute_of}
use Rattle.ncq_construct.specs.Proper.{attributes_are_named, template_is_named}
use Rattle.ncq_construct.proofs.ProperLaws.{slot_named, text_named, element_named}
use Rattle.ncq_xmlql.specs.Reading as reading
use Rattle.ncq_xmlql.specs.Reading.{all_differ}
use Rattle.ncq_xmlql.specs.WellFormed.{names_are_good, template_is_good}
use Rattle.ncq_xmlql.specs.declared.model.Template.{Template}
use Rattle.ncq_xmlql.specs.declared.model.Template.TheVariants.{Element}
use Rattle.ncq_xmlql.specs.declared.model.TemplateAttribute.{TemplateAttribute}
use Rattle.ncq_xmlql.proofs.CallerLemmas.{good_element}
use Rattle.ncq_bind.specs.NormalQueries.{slot_attribute_of, slot_template}
use Rattle.ncq_base.proofs.Tests.{both_true}
use Rattle.ncq_bind.proofs.TemplateLaws.{templates_induction, slotted_variable, slotted_literal, slotted_element}

neither : (a b : Bool) → not (a || b) ≡ true → (not a ≡ true) × (not b ≡ true)
neither true b e = absurd cc
neither false b e = (refl, e)

none_of : (a b : Bool) → not a ≡ true → not b ≡ true → not (a || b) ≡ true
none_of true b e f = e
none_of false b e f = f

-- a name that differs from those behind it may be given before them
still_new : (given : List Attribute) (a : Attribute) (more : List Attribute)
    → not (reading.has_name a.name (map (λ b. b.name) more)) ≡ true
    → list_all (λ b. not (has_name given b.name)) more ≡ true
    → list_all (λ b. not (has_name (given ++ a ∷ []) b.name)) more ≡ true
still_new given a [] h n = refl
still_new given a (b ∷ more) h n =
    let other = neither (bytes_eq b.name a.name) (reading.has_name a.name (map (λ (c : Attribute). c.name) more)) h in
    let new = both_true (not (has_name given b.name)) (list_all (λ c. not (has_name given c.name)) more) n in
    and_from _ _
    (ap not (list_any-append (λ (c : Attribute). bytes_eq c.name b.name) given (a ∷ []))
    ∙ none_of (has_name given b.name) (bytes_eq a.name b.name || false) new.0
    (none_of (bytes_eq a.name b.name) false (ap not (nat_list_eq_equiv.symm a.name b.name) ∙ other.0) refl))
    (still_new given a more other.1 new.1)

-- attributes whose names are PYX names and differ are good
good_from : (given attributes : List Attribute)
    → list_all is_pyx_name (map (λ a. a.name) attributes) ≡ true
    → all_differ (map (λ a. a.name) attributes) ≡ true
    → list_all (λ a. not (has_name given a.name)) attributes ≡ true
    → are_good given attributes ≡ true
good_from given [] p d n = refl
good_from given (a ∷ more) p d n =
    let names = map (λ (b : Attribute). b.name) more in
    let pyx = both_true (is_pyx_name a.name) (list_all is_pyx_name names) p in
    let differ = both_true (not (reading.has_name a.name names)) (all_differ names) d in
    let new = both_true (not (has_name given a.name)) (list_all (λ b. not (has_name given b.name)) more) n in
    and_from _ _ (and_from _ _ pyx.0 new.0)
    (good_from (given ++ a ∷ []) more pyx.1 differ.1 (still_new given a more differ.0 new.1))

all_new : (attributes : List Attribute) → list_all (λ a. not (has_name [] a.name)) attributes ≡ true
all_new [] = refl
all_new (a ∷ more) = all_new more

module _ (first : List ℕ → ℕ) where
  same_names : (attributes : List TemplateAttribute)
      → map (λ a. a.name) (map (attribute_of []) (map (slot_attribute_of first) attributes))
      ≡ map (λ a. a.name) attributes
  same_names [] = refl
  same_names (a ∷ more) = ap (λ v. a.name ∷ v) (same_names more)

  attributes_named : (attributes : List TemplateAttribute)
      → names_are_good (map (λ a. a.name) attributes) ≡ true
      → attributes_are_named (map (slot_attribute_of first) attributes) ≡ true
  attributes_named attributes h =
      let good = both_true (list_all is_pyx_name (map (λ (a : TemplateAttribute). a.name) attributes))
      (all_differ (map (λ (a : TemplateAttribute). a.name) attributes)) h in
      let made = map (attribute_of []) (map (slot_attribute_of first) attributes) in
      good_from [] made (ap (list_all is_pyx_name) (same_names attributes) ∙ good.0)
      (ap all_differ (same_names attributes) ∙ good.1) (all_new made)

  abbrev IsNamed : Template → Type 0
  IsNamed t = template_is_good t ≡ true → template_is_named (slot_template first t) ≡ true

  content_named : (below : List ((t : Template) × IsNamed t))
      → list_all template_is_good (map (λ b. b.0) below) ≡ true
      → list_all template_is_named (map (slot_template first) (map (λ b. b.0) below)) ≡ true
  content_named [] h = refl
  content_named (b ∷ below) h =
      let t = both_true (template_is_good b.0) (list_all template_is_good (map (λ (b : (t : Template) × IsNamed t). b.0) below)) h in
      and_from _ _ (b.1 t.0) (content_named below t.1)

  element_is_named : (tag : List ℕ) (attributes : List TemplateAttribute)
      (below : List ((t : Template) × IsNamed t)) → IsNamed (Element tag attributes (map (λ b. b.0) below))
  element_is_named tag attributes below h =
      let content = map (λ (b : (t : Template) × IsNamed t). b.0) below in
      let t = both_true (is_pyx_name tag && names_are_good (map (λ (a : TemplateAttribute). a.name) attributes))
      (list_all template_is_good content) (sym (good_element tag attributes content) ∙ h) in
      let u = both_true (is_pyx_name tag) (names_are_good (map (λ (a : TemplateAttribute). a.name) attributes)) t.0 in
      ap template_is_named (slotted_element first tag attributes content)
      ∙ element_named tag (map (slot_attribute_of first) attributes) (map (slot_template first) content)
      ∙ and_from _ _ (and_from _ _ u.0 (attributes_named attributes u.1)) (content_named below t.1)

  pub template_named : (t : Template) → IsNamed t
  template_named = templates_induction IsNamed
      (λ x h. ap template_is_named (slotted_variable first x) ∙ slot_named (first x))
      (λ text h. ap template_is_named (slotted_literal first text) ∙ text_named text)
      element_is_named
