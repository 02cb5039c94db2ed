use Rattle.std.proofs.Common.{◌≤◌, subst, sym}
use Rattle.ncq_midfile.proofs.file.MidFile.losses.Goals as goal
use Rattle.ncq_midfile.proofs.Cuts.{parted_ordered}
use Rattle.ncq_midfile.specs.Files.{AreParted}

pub count_losses-requires : goal.count_losses-requires
count_losses-requires c =
    subst (AreParted c.args.n) (sym c.as_slice.ensures.value)
    (parted_ordered c.args.n c.self.inside.base c.self.inside.rows.items (subst (λ f. f.base ≤ c.args.n) (sym c.self.view_is) c.requires) c.self.invariant.file.ordered)
