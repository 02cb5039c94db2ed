use Rattle.std.proofs.Common.{◌∙◌, ap, get_or}
use Rattle.ncq_shelf.specs.Stands.{IsThere}
use Rattle.ncq_engine.specs.Stands.{EngineState}
use Rattle.ncq_engine.proofs.MovedBases.{there_moved}
use Rattle.ncq_engine.proofs.TellingLoops.{each_here}
use Rattle.ncq_engine.proofs.engine.Engine.fold_worn.Goals as goal

pub fold_group-requires-clause-there : goal.fold_group-requires-clause-there
fold_group-requires-clause-there c =
    let list = c.args.worn.now in
    let at = c.loop-number.number-index in
    there_moved c.args.self.now c.loop-number.self c.loop-number.invariant.bases (get_or list at 0) (each_here (IsThere c.args.self.now.table.files) list at 0 c.loop-number-test.true c.requires.there)

pub fold_group-requires-clause-nothing : goal.fold_group-requires-clause-nothing
fold_group-requires-clause-nothing c = ap (λ (e : EngineState). e.cache) c.loop-number.invariant.same ∙ c.requires.nothing
