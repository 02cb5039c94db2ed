use Rattle.std.proofs.Common.{◌≡◌, ◌∙◌, Some, sym, subst}
use Rattle.std.specs.FinMap.{get}
use Rattle.ncq_shelf.specs.KeptFiles.{Files}
use Rattle.ncq_shelf.proofs.shelf.Shelf.raise_base.Goals as goal

pub returns-clause-raised : goal.returns-clause-raised
returns-clause-raised c = λ file at.
    let raised = c.set_base.ensures.raised file at in
    (raised.0, c.renew_keys.ensures ∙ raised.1, raised.2)

pub returns-clause-ranged : goal.returns-clause-ranged
returns-clause-ranged c = λ file at range kept after.
    c.set_base.ensures.ranged file at range kept (subst (λ (files : Files). get files c.args.number ≡ Some kept) c.renew_keys.ensures after)
