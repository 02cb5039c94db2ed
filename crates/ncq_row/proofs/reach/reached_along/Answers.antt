use Rattle.ncq_row.proofs.ReachLaws.{accepted_is}
use Rattle.ncq_row.proofs.reach.reached_along.Goals as goal

pub returns-clause-itself : goal.returns-clause-itself
returns-clause-itself c = λ tags after.
    accepted_is c.args.machine.now tags c.accepts.result (c.accepts.ensures tags after)
