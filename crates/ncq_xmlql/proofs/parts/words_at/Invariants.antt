use Rattle.std.proofs.Common.{◌≡◌, length}
use Rattle.ncq_xmlql.specs.Reading.{words_at, with_text}
use Rattle.ncq_xmlql.proofs.parts.words_at.Given as goal

abbrev pub invariant-loop-word : goal.invariant-loop-word
invariant-loop-word l = with_text l.text.items (words_at l.rest) ≡ with_text l.first (words_at l.tokens)

abbrev pub decreases-loop-word : goal.decreases-loop-word
decreases-loop-word l = length l.rest
