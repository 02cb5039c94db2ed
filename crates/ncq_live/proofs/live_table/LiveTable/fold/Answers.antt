use Rattle.ncq_live.proofs.WearLaws.{order_folded}
use Rattle.ncq_live.proofs.live_table.LiveTable.fold.Goals as goal

pub invariant_of-self : goal.invariant_of-self
invariant_of-self c =
    order_folded c.fold.result c.self.inside.groups c.fold.new.self c.self.inside.book.subscriptions c.self.inside.wear c.loosen.new.self c.fold.ensures.ok c.fold.ensures.err c.loosen.ensures.bounds c.loosen.ensures.pinned
    c.self.invariant
