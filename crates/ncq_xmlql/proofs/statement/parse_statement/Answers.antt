use Rattle.std.proofs.Common.{rules}
use Rattle.ncq_xmlql.specs.Answered.{statement_of, GivesStatement}
use Rattle.ncq_xmlql.proofs.WellFormedLaws.{given_formed}
use Rattle.ncq_xmlql.proofs.statement.parse_statement.Goals as goal

pub returns-in-Ok-clause-well_formed : goal.returns-in-Ok-clause-well_formed
unfolding statement_of
returns-in-Ok-clause-well_formed c =
    let given : GivesStatement c.parse_tokens.result (statement_of c.args.text.now) = search rules in
    given_formed c.args.text.now c.parse_tokens.result given
