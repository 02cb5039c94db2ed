use Rattle.std.proofs.Common.{subst}
use Rattle.std.specs.Prelude.{Option, IfSome}
use Rattle.ncq_engine.specs.Tellings.{KnowsChange}
use Rattle.ncq_engine.specs.declared.latest.Latest.{Latest}
use Rattle.ncq_engine.proofs.KeptLaws.{change_as}
use Rattle.ncq_engine.proofs.latest.change_of.Goals as goal

pub returns-then-told-subscription : goal.returns-then-told-subscription
returns-then-told-subscription c =
    let store = c.args.store.now in
    let table = c.requires.1 in
    let knows : KnowsChange store table c.in-Some.told = subst (λ (o : Option Latest). IfSome o (KnowsChange store table)) c.in-Some.is c.requires.2.1 in
    change_as c.requires.0 store table c.args.subscription.now c.requires.2.0 c.in-Some.told knows c.if-told-subscription.true
