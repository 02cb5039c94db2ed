-- For the crates above: when a template is good, by its variant.
use Rattle.std.proofs.Common.{◌≡◌, ℕ, Bool, true, List, map, sym, ap, ◌∙◌}
use Rattle.std.specs.Prelude.{◌&&◌}
use Rattle.std.specs.List.{list_all}
use Rattle.std.proofs.lemmas.List.Folds.{list_all-map}
use Rattle.ncq_base.specs.Names.{is_pyx_name}
use Rattle.ncq_xmlql.specs.declared.model.TemplateAttribute.{TemplateAttribute}
use Rattle.ncq_xmlql.specs.declared.model.Template.{Template}
use Rattle.ncq_xmlql.specs.declared.model.Template.TheVariants.{Variable, Literal, Element, rolls-Variable, rolls-Literal, rolls-Element}
use Rattle.ncq_xmlql.specs.declared.model.Template.TheOpen.Template-F.{Variable as VariableLayer, Literal as LiteralLayer, Element as ElementLayer}
use Rattle.ncq_xmlql.specs.declared.model.Template.TheFolds.{para-Template, para-roll-Template}
use Rattle.ncq_xmlql.specs.WellFormed.{names_are_good, template_layer, template_is_good}

pub good_variable : (x : List ℕ) → template_is_good (Variable x) ≡ true
unfolding template_is_good
good_variable x = ap (para-Template Bool template_layer) (sym (rolls-Variable x)) ∙ para-roll-Template Bool template_layer (VariableLayer x)

pub good_literal : (text : List ℕ) → template_is_good (Literal text) ≡ true
unfolding template_is_good
good_literal text = ap (para-Template Bool template_layer) (sym (rolls-Literal text)) ∙ para-roll-Template Bool template_layer (LiteralLayer text)

pub good_element : (tag : List ℕ) (attributes : List TemplateAttribute) (content : List Template)
    → template_is_good (Element tag attributes content) ≡ (is_pyx_name tag && names_are_good (map (λ a. a.name) attributes) && list_all template_is_good content)
unfolding template_is_good
good_element tag attributes content =
    ap (para-Template Bool template_layer) (sym (rolls-Element tag attributes content))
    ∙ para-roll-Template Bool template_layer (ElementLayer tag attributes content)
    ∙ ap (λ (b : Bool). is_pyx_name tag && names_are_good (map (λ a. a.name) attributes) && b)
    (list_all-map (λ (t : Template × Bool). t.1) (λ (t : Template). (t, template_is_good t)) content)
