use Rattle.std.proofs.Common.{◌≡◌, take}
use Rattle.std.specs.List.Sorted.{IsStrictlySortedBy}
use Rattle.std.specs.Ordering.{int_cmp}
use Rattle.ncq_midfile.specs.Orders.{AreValued}
use Rattle.ncq_midfile.proofs.order.Order.fill_up.Given as goal

abbrev pub invariant-loop-at : goal.invariant-loop-at
invariant-loop-at l = record {
  slot : l.self.slot ≡ l.initial.self.slot;
  index : l.self.index ≡ l.initial.self.index;
  ordered : IsStrictlySortedBy int_cmp l.self.values.keys;
  valued : AreValued l.initial.self.slot l.self.values.keys (take l.at l.rows);
}
