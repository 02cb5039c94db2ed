-- Reading a statement from all of its tokens.
use Rattle.std.specs.Prelude.{ℕ, Bool, true, false, if◌then◌else◌, List, ◌∷◌, length, Option, Some}
use Rattle.std.specs.Prelude.{None, codes}
use Rattle.ncq_base.specs.Names.{is_name}
use Rattle.ncq_token.specs.declared.token.Token.{Token}
use Rattle.ncq_token.specs.declared.token.Token.TheVariants.{Quoted, Word, Comma}
use Rattle.ncq_xmlql.specs.declared.model.Query.{Query}
use Rattle.ncq_xmlql.specs.declared.model.Statement.{Statement}
use Rattle.ncq_xmlql.specs.Reading.{Read, ◌>>=◌, is_keyword, lowered, checked}
use Rattle.ncq_xmlql.specs.ItemReading.{items_at}
use Rattle.ncq_xmlql.specs.TemplateReading.{top_at}
use Rattle.ncq_xmlql.specs.Times.{times, times_from, is_time_word}

-- the tokens behind the keyword
abbrev pub keyword_at : List ℕ → List Token → Option (List Token)
keyword_at keyword ((Word word) ∷ rest) = checked (is_keyword keyword word) (Some rest)
keyword_at keyword tokens = None

abbrev pub title_at : List Token → Read (List ℕ)
title_at ((Word word) ∷ rest) = checked (is_name word) (Some (word, rest))
title_at tokens = None

-- "create", the name and "where"
abbrev pub head_at : List Token → Read (List ℕ)
head_at tokens = keyword_at (codes "create") tokens >>= λ a. title_at a >>= λ title.
    keyword_at (codes "where") title.1 >>= λ b. Some (title.0, b)

-- "construct", behind a comma or without one
abbrev pub construct_at : List Token → Option (List Token)
construct_at (Comma ∷ rest) = keyword_at (codes "construct") rest
construct_at tokens = keyword_at (codes "construct") tokens

-- whether "distinct" stands in front, and the tokens behind it
abbrev pub distinct_at : List Token → Bool × List Token
distinct_at ((Word word) ∷ rest) = if is_keyword (codes "distinct") word then (true, rest)
    else (false, Word word ∷ rest)
distinct_at tokens = (false, tokens)

unfoldable pub query_at : ℕ → List Token → Read Query
query_at depth tokens = do
  items ← items_at depth tokens
  behind ← construct_at items.1
  template ← top_at depth (distinct_at behind).1
  Some (
    record { items = items.0; distinct = (distinct_at behind).0; template = template.0 },
    template.1,
  )

abbrev pub action_word_at : List Token → Read (List ℕ)
action_word_at ((Word word) ∷ rest) = Some (lowered word, rest)
action_word_at tokens = None

-- "do", and the action in lower case
abbrev pub action_at : List Token → Read (List ℕ)
action_at tokens = keyword_at (codes "do") tokens >>= λ a. action_word_at a

-- the argument, or none
abbrev pub argument_at : List Token → Read (Option (List ℕ))
argument_at ((Quoted text) ∷ rest) = Some (Some text, rest)
argument_at ((Word word) ∷ rest) = if is_time_word word then Some (None, Word word ∷ rest)
    else Some (Some word, rest)
argument_at tokens = Some (None, tokens)

-- the written interval, or 0
abbrev pub or_zero : Option ℕ → ℕ
or_zero None = 0
or_zero (Some n) = n

unfoldable pub statement_at : List Token → Option Statement
statement_at tokens = do
  title ← head_at tokens
  query ← query_at (length tokens) title.1
  action ← action_at query.1
  argument ← argument_at action.1
  written ← times_from (times None None None) argument.1
  Some (record {
    name = title.0;
    query = query.0;
    action = action.0;
    argument = argument.0;
    start = written.start;
    every = or_zero written.every;
    expire = written.expire;
  })
