use Rattle.std.proofs.Common.{subst}
use Rattle.ncq_shelf.specs.Ranges.{ShareRows}
use Rattle.ncq_shelf.proofs.VirtualFiles.{some_range_file}
use Rattle.ncq_shelf.proofs.shelf.Shelf.share_rows.Goals as goal

pub returns : goal.returns
returns c = subst ShareRows c.self.view_is (λ input slot.
    some_range_file c.self.inside.groups.entries c.self.inside.files.entries c.self.inside.numbers.entries c.self.inside.scans.entries c.self.invariant.shelved c.self.invariant.grouped input slot)
