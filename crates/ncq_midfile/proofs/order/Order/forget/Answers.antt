use Rattle.std.proofs.Common.{refl}
use Rattle.ncq_midfile.proofs.OrderLaws.{order_taken}
use Rattle.ncq_midfile.proofs.order.Order.forget.Goals as goal

pub returns-else-len-rows : goal.returns-else-len-rows
returns-else-len-rows c =
    let order = c.args.self.now in
    order_taken order (record { slot = order.slot; index = c.forget.new.self; values = order.values }) c.args.places.now c.args.rows.now c.requires.order c.requires.full refl refl c.forget.ensures.slots c.forget.ensures.covers
