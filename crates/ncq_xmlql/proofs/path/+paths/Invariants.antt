use Rattle.std.proofs.Common.{◌≡◌, length, ◌*◌, ◌+◌}
use Rattle.ncq_xmlql.specs.PathReading.{steps_of, alternatives_of, path_at}
use Rattle.ncq_xmlql.proofs.Loops.{with_items}
use Rattle.ncq_xmlql.proofs.path.+paths.Given as goal

abbrev pub decreases-path_at : goal.decreases-path_at
decreases-path_at l = 9 * l.depth

abbrev pub decreases-item_at : goal.decreases-item_at
decreases-item_at l = 9 * l.depth + 1

abbrev pub decreases-step_at : goal.decreases-step_at
decreases-step_at l = 9 * l.depth + 2

abbrev pub decreases-dotted_at : goal.decreases-dotted_at
decreases-dotted_at l = 9 * l.depth + 3

abbrev pub decreases-steps_at : goal.decreases-steps_at
decreases-steps_at l = 9 * l.depth + 4

abbrev pub decreases-sequence_at : goal.decreases-sequence_at
decreases-sequence_at l = 9 * l.depth + 5

abbrev pub decreases-barred_at : goal.decreases-barred_at
decreases-barred_at l = 9 * l.depth + 6

abbrev pub decreases-alternatives_at : goal.decreases-alternatives_at
decreases-alternatives_at l = 9 * l.depth + 7

abbrev pub decreases-any_at : goal.decreases-any_at
decreases-any_at l = 9 * l.depth + 8

abbrev pub invariant-alternatives_at-sequences : goal.invariant-alternatives_at-sequences
invariant-alternatives_at-sequences l = with_items l.paths (alternatives_of (path_at l.depth) l.rest) ≡ alternatives_of (path_at l.depth) l.tokens

abbrev pub decreases-alternatives_at-sequences : goal.decreases-alternatives_at-sequences
decreases-alternatives_at-sequences l = length l.rest

abbrev pub invariant-steps_at-steps : goal.invariant-steps_at-steps
invariant-steps_at-steps l = with_items l.paths (steps_of (path_at l.depth) l.rest) ≡ steps_of (path_at l.depth) l.tokens

abbrev pub decreases-steps_at-steps : goal.decreases-steps_at-steps
decreases-steps_at-steps l = length l.rest
