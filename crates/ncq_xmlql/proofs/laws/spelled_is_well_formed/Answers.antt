use Rattle.ncq_xmlql.proofs.WellFormedLaws.{spelled_formed}
use Rattle.ncq_xmlql.proofs.laws.spelled_is_well_formed.Goals as goal

pub returns : goal.returns
returns c = spelled_formed
