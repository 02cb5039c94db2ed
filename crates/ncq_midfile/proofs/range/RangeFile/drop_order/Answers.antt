use Rattle.ncq_midfile.proofs.Rangeds.{ranged_by}
use Rattle.ncq_midfile.proofs.range.RangeFile.drop_order.Goals as goal

pub invariant_of-self : goal.invariant_of-self
invariant_of-self c = ranged_by c.self.inside.slot c.self.inside.rows.items _ c.self.invariant c.lose_order.new.finders.items (c.lose_order.ensures _ c.self.invariant.covers)
