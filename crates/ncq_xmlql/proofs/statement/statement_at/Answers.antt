use Rattle.std.proofs.Common.{ℕ, List, rules}
use Rattle.std.specs.Prelude.{Option}
use Rattle.ncq_xmlql.specs.declared.model.Query.{Query}
use Rattle.ncq_xmlql.specs.declared.model.Statement.{Statement}
use Rattle.ncq_xmlql.specs.declared.time.Times.{Times}
use Rattle.ncq_xmlql.specs.StatementReading.{or_zero, statement_at}
use Rattle.ncq_xmlql.proofs.statement.statement_at.Goals as goal

-- the statement of these parts
abbrev made : List ℕ → Query → List ℕ → Option (List ℕ) → Times → Statement
made name query action argument times = record {
  name = name;
  query = query;
  action = action;
  argument = argument;
  start = times.start;
  every = or_zero times.every;
  expire = times.expire;
}

pub returns : goal.returns
unfolding statement_at
returns c =
    let read = c.in_ok-ending.ensures (made c.in_ok-name.name c.in_ok-query.query) in
    search rules

pub returns-in_err-ending : goal.returns-in_err-ending
unfolding statement_at
returns-in_err-ending c =
    let read = c.in_err-ending.ensures (made c.in_ok-name.name c.in_ok-query.query) in
    search rules
