use Rattle.std.proofs.Common.{◌∙◌, ◌≤◌, ap, sym, subst, not}
use Rattle.std.specs.Prelude.{None, Some}
use Rattle.std.specs.List.{filter}
use Rattle.ncq_strategy.specs.Numbers.{live_with}
use Rattle.ncq_book.specs.declared.subscription.Subscription.{Subscription}
use Rattle.ncq_book.specs.Books.{BookState, is_of, subscription_of}
use Rattle.ncq_book.specs.Kept.{IsStruck}
use Rattle.ncq_book.proofs.BookLaws.{less_book, less_counted, less_shown}
use Rattle.ncq_book.proofs.QuestionLaws.{found_placed}
use Rattle.ncq_book.proofs.SubscriptionLaws.{get_is}
use Rattle.ncq_book.proofs.book.Book.take.Goals as goal

pub strike-requires : goal.strike-requires
strike-requires c =
    subst (λ (m : Subscription). 1 ≤ live_with c.self.inside.finders.strategy m.bare) (sym c.get.ensures)
    (less_counted c.self.inside.subscriptions.entries c.self.inside.finders c.self.invariant c.args.install c.in_ok-held.held (sym c.in_ok-held.ensures.value))

pub invariant_of-self-2 : goal.invariant_of-self-2
invariant_of-self-2 c =
    less_book c.self.inside.subscriptions.entries c.self.inside.finders c.self.invariant c.args.install c.remove.new.self.entries c.remove.ensures.entries c.remove.ensures.updates.0 c.strike.new.self c.in_ok-held.held (sym c.in_ok-held.ensures.value)
    (subst (λ m. IsStruck m c.self.inside.finders c.strike.new.self) c.get.ensures c.strike.ensures)

pub returns-clause-subscriptions : goal.returns-clause-subscriptions
returns-clause-subscriptions c =
    let is = less_shown c.self.inside.subscriptions.entries c.self.inside.finders c.self.invariant c.args.install c.remove.new.self.entries c.remove.ensures.entries in
    (λ i. record { subscriptions = is i; instant = (c.strike.ensures.calendar i).instant })
    ∙ ap (λ (b : BookState). record b { subscriptions = filter (λ m. not (is_of c.args.install m)) b.subscriptions }) c.self.view_is

pub returns-in_err-held-clause-subscriptions : goal.returns-in_err-held-clause-subscriptions
returns-in_err-held-clause-subscriptions c =
    let is = less_shown c.self.inside.subscriptions.entries c.self.inside.finders c.self.invariant c.args.install c.remove.new.self.entries c.remove.ensures.entries in
    (λ i. record { subscriptions = is i; instant = c.self.inside.finders.calendar.instant })
    ∙ ap (λ (b : BookState). record b { subscriptions = filter (λ m. not (is_of c.args.install m)) b.subscriptions }) c.self.view_is

pub returns-clause-taken : goal.returns-clause-taken
returns-clause-taken c =
    ap Some c.into_inner.ensures
    ∙ found_placed c.args.install c.self.inside.subscriptions.entries (Some c.in_ok-held.held) c.in_ok-held.ensures.value
    ∙ get_is _ _ c.args.install c.self.invariant.kept.numbered
    ∙ ap (λ b. subscription_of c.args.install b.subscriptions) c.self.view_is

pub returns-in_err-held-clause-taken : goal.returns-in_err-held-clause-taken
returns-in_err-held-clause-taken c =
    c.from_residual.ensures
    ∙ found_placed c.args.install c.self.inside.subscriptions.entries None c.in_err-held.ensures.value
    ∙ get_is _ _ c.args.install c.self.invariant.kept.numbered
    ∙ ap (λ b. subscription_of c.args.install b.subscriptions) c.self.view_is
