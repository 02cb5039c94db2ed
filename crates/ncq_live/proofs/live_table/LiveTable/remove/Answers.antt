use Rattle.std.proofs.Common.{ap, filter, not, subst, sym, ◌∙◌, List}
use Rattle.ncq_book.specs.Books.{BookState, InstallsRise, is_of}
use Rattle.ncq_book.specs.declared.subscription.Subscription.{Subscription}
use Rattle.ncq_live.specs.LiveTables.{LiveState}
use Rattle.ncq_live.specs.Wears.{AreBounds, IsInOrder}
use Rattle.ncq_live.proofs.PinLaws.{pinned_none}
use Rattle.ncq_live.proofs.TurnLaws.{all_left, table_left, used_file}
use Rattle.ncq_live.proofs.WearLaws.{bounds_released, bounds_same}
use Rattle.ncq_live.proofs.live_table.LiveTable.remove.Goals as goal

pub release-requires : goal.release-requires
release-requires c =
    used_file c.self.inside.groups c.self.inside.book.subscriptions c.self.invariant.live_table (subst (λ (r : LiveState). InstallsRise r.subscriptions) (sym c.self.view_is) c.facts.ensures.rise) c.args.install c.in-Some.used
    (sym c.in-Some.ensures.file)

pub invariant_of-self : goal.invariant_of-self
invariant_of-self c =
    let left : List Subscription = filter (λ m. not (is_of c.args.install m)) c.self.inside.book.subscriptions in
    subst (λ (ms : List Subscription). IsInOrder c.release.new.self ms c.loosen.new.self) (sym (ap (λ (b : BookState). b.subscriptions) c.in-Some.ensures.subscriptions))
    (record {
      live_table =
          table_left c.self.inside.groups c.self.inside.book.subscriptions c.self.invariant.live_table (subst (λ (r : LiveState). InstallsRise r.subscriptions) (sym c.self.view_is) c.facts.ensures.rise) c.args.install c.in-Some.used
          (sym c.in-Some.ensures.file) c.release.new.self c.release.ensures.files;
      bounds =
          subst (AreBounds c.release.new.self.files) (sym c.loosen.ensures.bounds)
          (bounds_same c.release.new.self.files c.self.inside.wear.bounds c.forget.new.self.bounds c.forget.ensures.bounds
          (bounds_released c.self.inside.groups.files c.release.new.self.files c.in-Some.used.0 c.release.ensures.files c.self.inside.wear.bounds c.self.invariant.bounds));
      pinned = pinned_none c.release.new.self left c.loosen.new.self.pinned c.loosen.ensures.pinned;
    })

pub invariant_of-self-in_default : goal.invariant_of-self-in_default
invariant_of-self-in_default c =
    subst (λ (ms : List Subscription). IsInOrder c.self.inside.groups ms c.self.inside.wear)
    (sym (ap (λ (b : BookState). b.subscriptions) c.in_default.ensures.subscriptions ∙ all_left c.self.inside.book.subscriptions c.args.install (sym c.in_default.ensures.file))) c.self.invariant
