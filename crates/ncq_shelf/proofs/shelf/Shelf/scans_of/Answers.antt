use Rattle.std.proofs.Common.{[], nat_eq, sym, ◌∙◌, subst}
use Rattle.std.specs.List.{IsDistinct}
use Rattle.ncq_shelf.specs.Readers.{AreScansOf}
use Rattle.ncq_shelf.proofs.Consumers.{scans_told, scans_none}
use Rattle.ncq_shelf.proofs.shelf.Shelf.scans_of.Goals as goal

pub returns-clause-scans : goal.returns-clause-scans
returns-clause-scans c =
    subst (AreScansOf c.args.self.now c.args.source.now) (sym (c.in_ok-numbers.ensures ∙ c.joins.ensures.joins)) (subst (λ f. AreScansOf f c.args.source.now c.in-Some.readers.now.joins) c.self.view_is
    (scans_told c.self.inside.groups.entries c.self.inside.files.entries c.self.inside.numbers.entries c.self.inside.scans.entries c.self.invariant.shelved c.args.source.now c.in-Some.readers.now (sym c.in-Some.ensures.value)))

pub returns-clause-once : goal.returns-clause-once
returns-clause-once c = subst (IsDistinct nat_eq) (sym (c.in_ok-numbers.ensures ∙ c.joins.ensures.joins)) c.joins.ensures.once

pub returns-in_default-clause-scans : goal.returns-in_default-clause-scans
returns-in_default-clause-scans c =
    subst (AreScansOf c.args.self.now c.args.source.now) (sym c.new.ensures) (subst (λ f. AreScansOf f c.args.source.now []) c.self.view_is
    (scans_none c.self.inside.groups.entries c.self.inside.files.entries c.self.inside.numbers.entries c.self.inside.scans.entries c.self.invariant.shelved c.args.source.now (sym c.in_default.ensures.value)))

pub returns-in_default-clause-once : goal.returns-in_default-clause-once
unfolding IsDistinct
returns-in_default-clause-once c = subst (IsDistinct nat_eq) (sym c.new.ensures) tt
