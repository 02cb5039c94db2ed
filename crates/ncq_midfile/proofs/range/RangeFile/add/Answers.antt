use Rattle.std.proofs.Common.{◌≤◌, subst, sym}
use Rattle.std.specs.List.{AllByRecursion}
use Rattle.ncq_midfile.specs.Finders.{AreFinders}
use Rattle.ncq_midfile.specs.Views.{HasNumber}
use Rattle.ncq_midfile.proofs.Rangeds.{ranged_by, ranged_push}
use Rattle.ncq_midfile.proofs.range.RangeFile.add.Goals as goal

pub invariant_of-self-2 : goal.invariant_of-self-2
invariant_of-self-2 c =
    let slot = c.self.inside.slot in
    let rows = c.self.inside.rows.items in
    let finders = c.keep_order.new.finders.items in
    rw c.in_ok-push.ensures.items
    (ranged_push slot rows finders (ranged_by slot rows c.self.inside.finders.items c.self.invariant finders (subst (AreFinders finders) c.as_slice-rows.ensures.value c.keep_order.ensures)) c.args.row
    (subst (λ f. HasNumber f.slot c.args.row.row) (sym c.self.view_is) c.requires.number)
    (subst (λ f. AllByRecursion (λ r. r.number ≤ c.args.row.number) f.rows) (sym c.self.view_is) c.requires.last))
