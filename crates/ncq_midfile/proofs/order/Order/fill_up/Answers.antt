use Rattle.std.proofs.Common.{◌≡◌, true, get_or, take, subst, arith}
use Rattle.ncq_row.specs.Values.{atom_at}
use Rattle.ncq_midfile.specs.Orders.{is_known}
use Rattle.ncq_midfile.proofs.OrderLaws.{order_wider, valued_wider, valued_more}
use Rattle.ncq_midfile.proofs.order.Order.fill_up.Goals as goal

pub returns-then-self-len-clause-order : goal.returns-then-self-len-clause-order
returns-then-self-len-clause-order c =
    let inv = c.loop-at.invariant in
    let had = c.len-at.ensures in
    order_wider c.args.self.now c.loop-at.self c.args.rows.now c.loop-at.at c.requires inv.slot inv.index inv.ordered (omega arith) inv.valued

pub returns-in_err-note_number-clause-order : goal.returns-in_err-note_number-clause-order
returns-in_err-note_number-clause-order c =
    let inv = c.loop-at.invariant in
    let had = c.len-at.ensures in
    order_wider c.args.self.now (record { slot = c.loop-at.self.slot; index = c.loop-at.self.index; values = c.note_number.new.values }) c.args.rows.now c.loop-at.at
    c.requires inv.slot inv.index c.in_err-note_number.ensures.ordered (omega arith)
    (valued_wider c.args.self.now.slot c.loop-at.self.values.keys c.note_number.new.values.keys (take c.loop-at.at c.args.rows.now) c.in_err-note_number.ensures.more inv.valued)

pub loop-at-preserved : goal.loop-at-preserved
loop-at-preserved c =
    let inv = c.loop-at.invariant in
    let row = (get_or c.args.rows.now c.loop-at.at c.index-rows-at.result).row in
    let values = c.note_number.new.values.keys in
    record {
      slot = inv.slot;
      index = inv.index;
      ordered = c.in_ok-note_number.ensures.ordered;
      valued = valued_more c.args.self.now.slot c.loop-at.self.values.keys values c.args.rows.now c.loop-at.at c.index-rows-at.result c.loop-at-test.true c.in_ok-note_number.ensures.more inv.valued
          (subst (λ slot. is_known (atom_at row slot) values ≡ true) inv.slot c.in_ok-note_number.ensures.known);
    }
