use Rattle.std.proofs.Common.{sym, ap, subst}
use Rattle.ncq_shelf.specs.Groups.{group_of}
use Rattle.ncq_shelf.specs.Stands.{IsThere}
use Rattle.ncq_shelf.proofs.SlotFiles.{input_there}
use Rattle.ncq_shelf.proofs.shelf.Shelf.group_at.Goals as goal

pub returns-in-Ranged : goal.returns-in-Ranged
returns-in-Ranged c =
    subst (λ f. IsThere f c.in-Ranged.group.input) c.self.view_is
    (input_there c.self.inside.groups.entries c.self.inside.files.entries c.self.inside.numbers.entries c.self.inside.scans.entries c.self.invariant.shelved c.self.invariant.grouped c.args.number c.in_ok-group.field-0.now c.in-Ranged.group (sym c.in_ok-group.ensures.value) (ap group_of c.in-Ranged.is))
