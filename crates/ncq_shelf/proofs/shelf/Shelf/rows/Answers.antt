use Rattle.std.proofs.Common.{◌-◌, ◌^◌, refl, subst}
use Rattle.ncq_shelf.specs.RowCounts.{CountsRows}
use Rattle.ncq_shelf.proofs.RowCounts.{counts_rows}
use Rattle.ncq_shelf.proofs.shelf.Shelf.rows.Goals as goal

pub returns : goal.returns
returns c = subst (λ files. CountsRows files c.saturating_add.result) c.self.view_is
    (counts_rows c.self.inside.groups.entries c.self.inside.files.entries c.self.inside.numbers.entries c.self.inside.scans.entries c.self.invariant.shelved c.self.invariant.grouped c.own_rows.ensures.once c.shared_rows.ensures.once
    (2 ^ 64 - 1) c.own_rows.result c.shared_rows.result c.saturating_add.result refl c.own_rows.ensures.count c.shared_rows.ensures.count c.saturating_add.ensures)
