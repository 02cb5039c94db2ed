use Rattle.std.proofs.Common.{◌≡◌, length, ◌*◌, ◌+◌}
use Rattle.ncq_xmlql.specs.Reading.{many, starts_tag}
use Rattle.ncq_xmlql.specs.PatternReading.{pattern_at}
use Rattle.ncq_xmlql.proofs.Loops.{with_items}
use Rattle.ncq_xmlql.proofs.pattern.+patterns.Given as goal

abbrev pub decreases-pattern_at : goal.decreases-pattern_at
decreases-pattern_at l = 5 * l.depth

abbrev pub decreases-patterns_at : goal.decreases-patterns_at
decreases-patterns_at l = 5 * l.depth + 1

abbrev pub decreases-content_at : goal.decreases-content_at
decreases-content_at l = 5 * l.depth + 2

abbrev pub decreases-body_at : goal.decreases-body_at
decreases-body_at l = 5 * l.depth + 3

abbrev pub decreases-pattern_of : goal.decreases-pattern_of
decreases-pattern_of l = 5 * l.depth + 4

abbrev pub invariant-patterns_at-parts : goal.invariant-patterns_at-parts
invariant-patterns_at-parts l = with_items l.patterns (many starts_tag (pattern_at l.depth) l.rest) ≡ many starts_tag (pattern_at l.depth) l.tokens

abbrev pub decreases-patterns_at-parts : goal.decreases-patterns_at-parts
decreases-patterns_at-parts l = length l.rest
