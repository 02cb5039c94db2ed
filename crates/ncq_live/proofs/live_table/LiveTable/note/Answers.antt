use Rattle.std.proofs.Common.{ap, map, subst, sym, List}
use Rattle.ncq_book.specs.Books.{BookState, with_note}
use Rattle.ncq_book.specs.declared.subscription.Subscription.{Subscription}
use Rattle.ncq_live.specs.Wears.{AreBounds, IsInOrder}
use Rattle.ncq_live.proofs.LiveTableLaws.{table_noted}
use Rattle.ncq_live.proofs.PinLaws.{pinned_none}
use Rattle.ncq_live.proofs.live_table.LiveTable.note.Goals as goal

pub invariant_of-self : goal.invariant_of-self
invariant_of-self c =
    subst (λ (ms : List Subscription). IsInOrder c.self.inside.groups ms c.loosen.new.self) (sym (ap (λ (b : BookState). b.subscriptions) c.note.ensures))
    (record {
      live_table = table_noted c.self.inside.groups c.self.inside.book.subscriptions c.args.install c.args.number c.self.invariant.live_table;
      bounds = subst (AreBounds c.self.inside.groups.files) (sym c.loosen.ensures.bounds) c.self.invariant.bounds;
      pinned = pinned_none c.self.inside.groups (map (with_note c.args.install c.args.number) c.self.inside.book.subscriptions) c.loosen.new.self.pinned c.loosen.ensures.pinned;
    })
