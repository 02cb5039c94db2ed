use Rattle.std.proofs.Common.{ap, ◌∙◌}
use Rattle.std.specs.FinMap.{empty}
use Rattle.ncq_bag.specs.Added.{with_adds}
use Rattle.ncq_bag.proofs.AddLaws.{with_adds-push}
use Rattle.ncq_bag.proofs.bag.SignedBag.add.Goals as goal

pub returns-clause-counts : goal.returns-clause-counts
returns-clause-counts c =
    rw (← c.self.view_is)
    (ap (with_adds empty) c.in_ok-push.ensures.items ∙ with_adds-push c.self.inside.list.items empty _)
