use Rattle.ncq_token.proofs.NameLaws.{tokens_well_named}
use Rattle.ncq_token.proofs.laws.names_are_names.Goals as goal

pub returns : goal.returns
returns c = tokens_well_named
