use Rattle.std.proofs.Common.{◌≡◌, length}
use Rattle.ncq_xmlql.specs.Reading.{many}
use Rattle.ncq_xmlql.specs.ItemReading.{items_at, next_item_at, continues}
use Rattle.ncq_xmlql.proofs.Loops.{with_items}
use Rattle.ncq_xmlql.proofs.items.items_at.Given as goal

abbrev pub invariant-items : goal.invariant-items
invariant-items l = with_items l.items (many continues (next_item_at l.depth) l.rest) ≡ items_at l.depth l.tokens

abbrev pub decreases-items : goal.decreases-items
decreases-items l = length l.rest
