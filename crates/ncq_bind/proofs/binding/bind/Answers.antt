use Rattle.std.proofs.Common.{◌≡◌, ◌∙◌, sym, Some, None}
use Rattle.std.specs.Prelude.{if◌then◌else◌}
use Rattle.ncq_bind.specs.NormalQueries.{normal_query}
use Rattle.ncq_bind.specs.Bound.{query_is_bound}
use Rattle.ncq_bind.proofs.AnswerLaws.{statement_named}
use Rattle.ncq_bind.proofs.BindLaws.{bound_some, statement_formed}
use Rattle.ncq_bind.proofs.binding.bind.Goals as goal

pub returns-in-Some-clause-formed : goal.returns-in-Some-clause-formed
returns-in-Some-clause-formed g c =
    let q = c.args.statement.now.query in
    let e : Some c.in-Some.query ≡ (if query_is_bound c.args.statement.now.query then Some (normal_query c.args.statement.now.query) else None)
    = sym c.in-Some.is ∙ c.in_ok-query.ensures in
    let b = bound_some (query_is_bound q) c.in-Some.query (normal_query q) e in
    statement_formed c.args.statement.now c.in-Some.query c.requires b.0 b.1

pub returns-in-Some-clause-named : goal.returns-in-Some-clause-named
returns-in-Some-clause-named g c =
    let q = c.args.statement.now.query in
    let e : Some c.in-Some.query ≡ (if query_is_bound c.args.statement.now.query then Some (normal_query c.args.statement.now.query) else None)
    = sym c.in-Some.is ∙ c.in_ok-query.ensures in
    let b = bound_some (query_is_bound q) c.in-Some.query (normal_query q) e in
    statement_named c.args.statement.now c.in-Some.query c.requires b.1
