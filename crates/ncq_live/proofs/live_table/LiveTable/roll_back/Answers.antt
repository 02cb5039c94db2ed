use Rattle.std.proofs.Common.{subst, sym}
use Rattle.ncq_live.specs.Wears.{AreBounds}
use Rattle.ncq_live.proofs.PinLaws.{pinned_none}
use Rattle.ncq_live.proofs.TurnLaws.{table_cut}
use Rattle.ncq_live.proofs.WearLaws.{bounds_cut}
use Rattle.ncq_live.proofs.live_table.LiveTable.roll_back.Goals as goal

pub invariant_of-self : goal.invariant_of-self
invariant_of-self c = record {
  live_table = table_cut c.args.mark.number c.self.inside.groups c.roll_back.new.self c.self.inside.book.subscriptions c.roll_back.ensures.files c.self.invariant.live_table;
  bounds =
      subst (AreBounds c.roll_back.new.self.files) (sym c.loosen.ensures.bounds)
      (bounds_cut c.args.mark.number c.self.inside.groups.files c.roll_back.new.self.files c.roll_back.ensures.files c.self.inside.wear.bounds c.self.invariant.bounds);
  pinned = pinned_none c.roll_back.new.self c.self.inside.book.subscriptions c.loosen.new.self.pinned c.loosen.ensures.pinned;
}
