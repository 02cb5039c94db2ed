use Rattle.std.proofs.Common.{◌≡◌, length, ◌*◌, ◌+◌}
use Rattle.ncq_xmlql.specs.Reading.{many}
use Rattle.ncq_xmlql.specs.TemplateReading.{starts_part, part_at}
use Rattle.ncq_xmlql.proofs.Loops.{with_items}
use Rattle.ncq_xmlql.proofs.template.+templates.Given as goal

abbrev pub decreases-part_at : goal.decreases-part_at
decreases-part_at l = 5 * l.depth

abbrev pub decreases-parts_at : goal.decreases-parts_at
decreases-parts_at l = 5 * l.depth + 1

abbrev pub decreases-inside_at : goal.decreases-inside_at
decreases-inside_at l = 5 * l.depth + 2

abbrev pub decreases-element_of : goal.decreases-element_of
decreases-element_of l = 5 * l.depth + 3

abbrev pub decreases-part_of : goal.decreases-part_of
decreases-part_of l = 5 * l.depth + 4

abbrev pub invariant-parts_at-parts : goal.invariant-parts_at-parts
invariant-parts_at-parts l = with_items l.content (many starts_part (part_at l.depth) l.rest) ≡ many starts_part (part_at l.depth) l.tokens

abbrev pub decreases-parts_at-parts : goal.decreases-parts_at-parts
decreases-parts_at-parts l = length l.rest
