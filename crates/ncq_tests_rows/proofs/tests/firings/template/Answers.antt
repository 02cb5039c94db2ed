use Rattle.std.proofs.Common.{◌≡◌, Bool, true, [], ◌∷◌, ap, ◌∙◌}
use Rattle.std.specs.Prelude.{◌&&◌}
use Rattle.std.specs.List.{list_all}
use Rattle.ncq_plan.specs.declared.template.SlotTemplate.TheVariants.{Slot}
use Rattle.ncq_plan.specs.Templates.{attribute_is_within, template_is_within}
use Rattle.ncq_plan.proofs.CallerLemmas.{element_within, slot_within}
use Rattle.ncq_tests_rows.proofs.tests.firings.template.Goals as goal

pub returns : goal.returns
returns c =
    let content : c.push.new.self ≡ Slot 0 ∷ [] = cc (c.in_ok-push.ensures.ok, c.new-content.ensures) in
    element_within 1 c.in_ok-bytes_of.field-0 c.new.result c.push.new.self
    ∙ (λ i. list_all (attribute_is_within 1) (c.new.ensures i) && list_all (template_is_within 1) (content i))
    ∙ ap (λ (b : Bool). b && true) (slot_within 1 0)
