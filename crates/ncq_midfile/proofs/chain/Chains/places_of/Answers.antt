use Rattle.std.proofs.Common.{subst}
use Rattle.ncq_midfile.specs.Chains.{AreSpotted}
use Rattle.ncq_midfile.proofs.ChainLaws.{spotted_result}
use Rattle.ncq_midfile.proofs.chain.Chains.places_of.Goals as goal

pub returns : goal.returns
returns c =
    let spots = c.self.inside.spots in
    spotted_result c.args.number c.args.from c.args.self.now spots c.places_of.result
    (subst (λ ns. AreSpotted ns spots) c.self.view_is c.self.invariant) c.places_of.ensures.rising c.places_of.ensures.same
