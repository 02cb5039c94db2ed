use Rattle.std.proofs.Common.{◌≡◌, ◌≤◌, ◌-◌, length}
use Rattle.ncq_token.specs.Tokens.{with_front, tokens_from, tokens_of}
use Rattle.ncq_token.proofs.tokenise.tokens.Given as goal

abbrev pub invariant-loop-first : goal.invariant-loop-first
invariant-loop-first l =
    record {
      value : with_front l.tokens (tokens_from l.inside (length l.text - length l.rest) 0 l.rest) ≡ tokens_of l.text;
      within : length l.rest ≤ length l.text;
    }

abbrev pub decreases-loop-first : goal.decreases-loop-first
decreases-loop-first l = length l.rest
