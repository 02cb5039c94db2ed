use Rattle.std.proofs.Common.{◌∙◌, subst}
use Rattle.ncq_shelf.specs.Stands.{Finds}
use Rattle.ncq_shelf.proofs.Indexes.{finds}
use Rattle.ncq_shelf.proofs.shelf.Shelf.find.Goals as goal

pub returns : goal.returns
returns c = subst (λ f. Finds f c.args.expr.now c.copied.result) c.self.view_is
    (finds c.self.inside.groups.entries c.self.inside.files.entries c.self.inside.numbers.entries c.self.invariant.shelved.indexed c.args.expr.now c.copied.result (c.copied.ensures ∙ c.get.ensures.value))
