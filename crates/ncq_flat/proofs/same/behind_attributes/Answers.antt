use Rattle.std.proofs.Common.{map, refl}
use Rattle.std.specs.List.{list_all}
use Rattle.ncq_pyx.specs.Canonical.{ended, bytes_of_lines, attribute_line, has_good_name}
use Rattle.ncq_flat.proofs.RestLaws.{left_more, left_all}
use Rattle.ncq_flat.proofs.same.behind_attributes.Goals as goal

pub loop-attribute-preserved : goal.loop-attribute-preserved
loop-attribute-preserved c =
    left_more has_good_name (λ a. ended (attribute_line a)) (list_all has_good_name) (λ attributes. bytes_of_lines (map attribute_line attributes))
    (λ a more. (refl, refl)) (refl, refl)
    c.args.attributes.now c.loop-attribute.attribute-index c.args.text.now c.loop-attribute.rest.now c.loop-attribute.invariant
    c.attribute-item.result c.attribute-item.is c.loop-attribute-test.true c.in_ok-rest.rest.now c.in_ok-rest.ensures

pub returns : goal.returns
returns c =
    left_all has_good_name (λ a. ended (attribute_line a)) (list_all has_good_name) (λ attributes. bytes_of_lines (map attribute_line attributes))
    (λ a more. (refl, refl)) (refl, refl)
    c.args.attributes.now c.loop-attribute.attribute-index c.args.text.now c.loop-attribute.rest.now c.loop-attribute.invariant
    c.loop-attribute-test.false
