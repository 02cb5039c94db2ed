-- The answer to a text, as a function: the statement that it is, or the first refusal.
use Rattle.std.specs.Prelude.{◌≡◌, ℕ, nat_lt, if◌then◌else◌, List, Option, Some, None, Result, Ok}
use Rattle.std.specs.Prelude.{Err}
use Rattle.ncq_base.specs.declared.limit.Limit.{Limit as LimitKind}
use Rattle.ncq_base.specs.declared.limit.Limit.TheVariants as limit
use Rattle.ncq_token.specs.Tokens.{Read as TokensRead, tokens_of}
use Rattle.ncq_xmlql.specs.declared.model.QueryItem.{QueryItem}
use Rattle.ncq_xmlql.specs.declared.model.Statement.{Statement}
use Rattle.ncq_xmlql.specs.declared.statement.StatementError.{StatementError}
use Rattle.ncq_xmlql.specs.declared.statement.StatementError.TheVariants.{NotAStatement, Limit}
use Rattle.ncq_xmlql.specs.declared.statement.StatementError.TheVariants.{OutOfMemory}
use Rattle.ncq_xmlql.specs.Nesting.{nest}
use Rattle.ncq_xmlql.specs.Counts.{arms, slots, conditions}
use Rattle.ncq_xmlql.specs.PatternPaths.{all_paths, is_few}
use Rattle.ncq_xmlql.specs.StatementReading.{statement_at}

-- the first of these limits that the items exceed
abbrev pub exceeded : List QueryItem → Option LimitKind
exceeded items =
    if nat_lt 8 (arms items) then Some limit.Arms
    else (if nat_lt 64 (slots items) then Some limit.Slots
    else (if nat_lt 32 (conditions items) then Some limit.Conditions
    else (if all_paths is_few items then None
    else Some limit.Path)))

-- the statement, unless it exceeds a limit
abbrev pub unless_exceeded : Statement → Option LimitKind → Result Statement StatementError
unless_exceeded st None = Ok st
unless_exceeded st (Some which) = Err (Limit which)

-- what was read of the tokens, within the limits
abbrev pub limited : Option Statement → Result Statement StatementError
limited None = Err NotAStatement
limited (Some st) = unless_exceeded st (exceeded st.query.items)

-- the answer to a text with these tokens
abbrev pub answered_tokens : TokensRead → Result Statement StatementError
answered_tokens (Ok tokens) = if nat_lt 32 (nest tokens) then Err (Limit limit.Pattern)
    else limited (statement_at tokens)
answered_tokens (Err at) = Err NotAStatement

-- the statement that the text is, or the first refusal
unfoldable pub statement_of : List ℕ → Result Statement StatementError
statement_of text = answered_tokens (tokens_of text)

-- what a call answered is this, unless memory ran out
abbrev pub GivesStatement : Result Statement StatementError → Result Statement StatementError
    → Type 0
GivesStatement (Ok st) answer = answer ≡ Ok st
GivesStatement (Err OutOfMemory) answer = Unit {0}
GivesStatement (Err NotAStatement) answer = answer ≡ Err NotAStatement
GivesStatement (Err (Limit which)) answer = answer ≡ Err (Limit which)
