use Rattle.std.proofs.Common.{◌∙◌, sym}
use Rattle.ncq_bind.proofs.QueryLaws.{made_is}
use Rattle.ncq_bind.proofs.query.bound_query.Goals as goal

pub returns : goal.returns
returns c =
    made_is c.args.query.now c.args.places.now c.in_ok-names.names c.args.arms c.in_ok-query_over.field-0
    c.in_ok-names.ensures c.in_ok-query_over.ensures (sym c.query_is_bound.ensures ∙ c.if-not-query_is_bound.false)
