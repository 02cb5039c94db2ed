use Rattle.std.proofs.Common.{arith}
use Rattle.std.proofs.lemmas.Grind.{common_steps}
use Rattle.ncq_source.proofs.Commits.{declare_stays_proper}
use Rattle.ncq_source.proofs.store.Store.declare.Goals as goal

pub returns-clause-ok : goal.returns-clause-ok
returns-clause-ok c = grind (arith, common_steps)

pub returns-clause-proper : goal.returns-clause-proper
returns-clause-proper c proper = declare_stays_proper _ _ c.args.name c.args.root c.args.key (returns-clause-ok c) proper
