use Rattle.std.proofs.Common.{List, [], ap, subst, sym}
use Rattle.ncq_group.proofs.Empty.{nothing_there}
use Rattle.ncq_book.specs.declared.subscription.Subscription.{Subscription}
use Rattle.ncq_book.specs.Books.{BookState}
use Rattle.ncq_live.specs.Wears.{IsInOrder}
use Rattle.ncq_live.proofs.LiveTableLaws.{table_of_none}
use Rattle.ncq_live.proofs.PinLaws.{pinned_none}
use Rattle.ncq_live.proofs.WearLaws.{bounds_of_none}
use Rattle.ncq_live.proofs.live_table.LiveTable.new.Goals as goal

pub invariant_of-result : goal.invariant_of-result
invariant_of-result c =
    subst (λ (ms : List Subscription). IsInOrder c.new.result ms c.new-3.result) (sym (ap (λ (b : BookState). b.subscriptions) c.new-2.ensures))
    (record { live_table = table_of_none c.new.result c.new.ensures.files; bounds = bounds_of_none c.new.result.files c.new-3.result.bounds (nothing_there c.new.result.files c.new.ensures.files); pinned = pinned_none c.new.result [] c.new-3.result.pinned c.new-3.ensures.pinned })
