use Rattle.std.proofs.Common.{drop, map}
use Rattle.std.specs.List.{list_all}
use Rattle.ncq_pyx.specs.Canonical.{bytes_of_lines, attribute_line, has_good_name}
use Rattle.ncq_flat.proofs.RestLaws.{SameRests}
use Rattle.ncq_flat.proofs.same.behind_attributes.Given as goal

-- what is left decides
abbrev pub invariant-loop-attribute : goal.invariant-loop-attribute
invariant-loop-attribute l =
    SameRests (list_all has_good_name l.attributes) (bytes_of_lines (map attribute_line l.attributes)) l.text
    (list_all has_good_name (drop l.attribute-index l.attributes)) (bytes_of_lines (map attribute_line (drop l.attribute-index l.attributes))) l.rest
