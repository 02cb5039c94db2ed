-- Which text is which statement, and which answer a text has within the limits.
use Rattle.std.specs.Prelude.{◌≡◌, ◌≤◌, ◌<◌, ℕ, true, false, List, Result, Ok, Err}
use Rattle.ncq_base.specs.declared.limit.Limit.{Limit as LimitKind}
use Rattle.ncq_base.specs.declared.limit.Limit.TheVariants as limit
use Rattle.ncq_token.specs.declared.token.Token.{Token}
use Rattle.ncq_token.specs.Tokens.{tokens_of}
use Rattle.ncq_xmlql.specs.declared.model.QueryItem.{QueryItem}
use Rattle.ncq_xmlql.specs.declared.model.Statement.{Statement}
use Rattle.ncq_xmlql.specs.declared.statement.StatementError.{StatementError}
use Rattle.ncq_xmlql.specs.declared.statement.StatementError.TheVariants.{NotAStatement, Limit}
use Rattle.ncq_xmlql.specs.declared.statement.StatementError.TheVariants.{OutOfMemory}
use Rattle.ncq_xmlql.specs.Nesting.{nest}
use Rattle.ncq_xmlql.specs.Counts.{arms, slots, conditions}
use Rattle.ncq_xmlql.specs.PatternPaths.{all_paths, is_few}
use Rattle.ncq_xmlql.specs.StatementGrammar.{IsSpelled}

-- The text has these tokens, and they spell the statement.
pub record IsStatement (text : List ℕ) (st : Statement) : Type 0 where
  pub tokens : List Token
  pub are_tokens : tokens_of text ≡ Ok tokens
  pub spelled : IsSpelled tokens st

-- The tags of the text and the brackets in them nest 32 deep at most, if it has tokens.
abbrev pub IsShallow : List ℕ → Type 0
IsShallow text = (tokens : List Token) → tokens_of text ≡ Ok tokens → nest tokens ≤ 32

-- The tags of the text and the brackets in them nest deeper than 32.
abbrev pub IsDeep : List ℕ → Type 0
IsDeep text = (tokens : List Token) × (tokens_of text ≡ Ok tokens) × (32 < nest tokens)

-- The items have 8 arms, 64 slots and 32 conditions at most, and each path 32 names.
abbrev pub AreWithin : List QueryItem → Type 0
AreWithin items = (arms items ≤ 8) × (slots items ≤ 64) × (conditions items ≤ 32)
    × (all_paths is_few items ≡ true)

-- The first of these limits that the items exceed is this one.
abbrev pub Exceed : List QueryItem → LimitKind → Type 0
Exceed items limit.Arms = 8 < arms items
Exceed items limit.Slots = (arms items ≤ 8) × (64 < slots items)
Exceed items limit.Conditions = (arms items ≤ 8) × (slots items ≤ 64) × (32 < conditions items)
Exceed items limit.Path = (arms items ≤ 8) × (slots items ≤ 64) × (conditions items ≤ 32)
    × (all_paths is_few items ≡ false)
Exceed items which = ⊥

-- When each answer is given. No two of them are right for one text, but for want of memory.
abbrev pub Answers : List ℕ → Result Statement StatementError → Type 0
Answers text (Ok st) = IsStatement text st × IsShallow text × AreWithin st.query.items
Answers text (Err NotAStatement) = ((st : Statement) → ¬ IsStatement text st) × IsShallow text
Answers text (Err (Limit limit.Pattern)) = IsDeep text
Answers text (Err (Limit which)) = (st : Statement) × IsStatement text st × IsShallow text
    × Exceed st.query.items which
Answers text (Err OutOfMemory) = Unit {0}
