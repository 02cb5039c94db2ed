use Rattle.ncq_token.proofs.TokenLaws.{tokens_sound, tokens_complete, stop_sound, stop_complete}
use Rattle.ncq_token.proofs.laws.tokens_are.Goals as goal

pub returns-clause-read : goal.returns-clause-read
returns-clause-read c = λ text ts. (tokens_sound text ts, tokens_complete text ts)

pub returns-clause-refused : goal.returns-clause-refused
returns-clause-refused c = λ text at. (stop_sound text at, stop_complete text at)
