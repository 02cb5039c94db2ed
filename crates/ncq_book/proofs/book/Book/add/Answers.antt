use Rattle.std.proofs.Common.{◌≡◌, ◌-◌, ◌<◌, ◌≤◌, ◌^◌, length, false, ◌∙◌, ap, cond, sym, subst, ◌++◌, ◌∷◌, []}
use Rattle.std.specs.List.{list_any, AllByRecursion}
use Rattle.std.specs.Map.{lookup}
use Rattle.std.specs.Prelude.{None, Some}
use Rattle.std.specs.Str.{bytes_eq}
use Rattle.std.specs.BTreeMap.{insert_entry, is_at}
use Rattle.std.specs.Ordering.{nat_cmp}
use Rattle.ncq_strategy.specs.Numbers.{live_with}
use Rattle.ncq_book.specs.declared.subscription.Subscription.{Subscription}
use Rattle.ncq_book.specs.Books.{BookState, is_named}
use Rattle.ncq_book.specs.Kept.{IsEnrolled, IsStruck}
use Rattle.ncq_book.proofs.BookLaws.{above_each, back_book, found_as_before, more_book, more_shown}
use Rattle.ncq_book.proofs.KeptLaws.{above_all, few_have, free_name, put_counted}
use Rattle.ncq_book.proofs.QuestionLaws.{subscription}
use Rattle.ncq_book.proofs.book.Book.add.Goals as goal

above_in : (inside now : BookState) (m : Subscription) → inside ≡ now → AllByRecursion (λ n. n.install < m.install) now.subscriptions → AllByRecursion (λ n. n.install < m.install) inside.subscriptions
above_in inside now m is above = subst (λ (b : BookState). AllByRecursion (λ n. n.install < m.install) b.subscriptions) (sym is) above

free_in : (inside now : BookState) (m : Subscription) → inside ≡ now → list_any (is_named m.name) now.subscriptions ≡ false → list_any (is_named m.name) inside.subscriptions ≡ false
free_in inside now m is free = ap (λ (b : BookState). list_any (is_named m.name) b.subscriptions) is ∙ free

pub question_of-question-requires-clause-above : goal.question_of-question-requires-clause-above
question_of-question-requires-clause-above c = above_each _ c.self.inside.finders c.self.invariant c.args.subscription.install (above_in _ _ c.args.subscription c.self.view_is c.requires.above)

pub enroll-requires-clause-above : goal.enroll-requires-clause-above
enroll-requires-clause-above c =
    subst (λ (m : Subscription). AllByRecursion (λ e. e.0 < m.install) c.self.inside.finders.calendar.entries) (sym (c.get.ensures ∙ ap subscription c.in_ok-held.ensures))
    (above_all _ _ c.self.inside.finders c.self.invariant.kept c.args.subscription.install (above_in _ _ c.args.subscription c.self.view_is c.requires.above))

pub enroll-requires-clause-free : goal.enroll-requires-clause-free
enroll-requires-clause-free c =
    subst (λ (m : Subscription). lookup (bytes_eq m.name) c.self.inside.finders.names ≡ None) (sym (c.get.ensures ∙ ap subscription c.in_ok-held.ensures))
    (free_name _ _ c.self.inside.finders c.self.invariant.kept c.args.subscription.name (free_in _ _ c.args.subscription c.self.view_is c.requires.free))

pub enroll-requires-clause-few : goal.enroll-requires-clause-few
enroll-requires-clause-few c =
    subst (λ (m : Subscription). live_with c.self.inside.finders.strategy m.bare < 2 ^ 64 - 1) (sym (c.get.ensures ∙ ap subscription c.in_ok-held.ensures))
    (few_have _ _ c.self.inside.finders c.self.invariant.kept c.args.subscription.bare (2 ^ 64 - 1)
    (subst (λ (b : BookState). length b.subscriptions < 2 ^ 64 - 1) (sym c.self.view_is) c.requires.few))

pub invariant_of-self : goal.invariant_of-self
invariant_of-self c = found_as_before _ c.self.inside.finders c.self.invariant c.enroll.new.self c.in_err-enroll.ensures.err

pub invariant_of-self-in-Ok : goal.invariant_of-self-in-Ok
invariant_of-self-in-Ok c =
    let asked = c.self.inside.subscriptions.entries in
    more_book asked c.self.inside.finders c.self.invariant c.enroll.new.self c.args.subscription
    (above_in _ _ c.args.subscription c.self.view_is c.requires.above) (free_in _ _ c.args.subscription c.self.view_is c.requires.free)
    (subst (λ m. IsEnrolled m c.self.inside.finders c.enroll.new.self) (c.get.ensures ∙ ap subscription c.in_ok-held.ensures) c.in_ok-enroll.ensures.ok)
    c.insert.new.self.entries c.question_of-question.result (c.in-Ok.ensures.entries ∙ ap (insert_entry nat_cmp asked c.args.subscription.install) c.in_ok-held.ensures)
    (λ q. c.in-Ok.ensures.updates.0 q ∙ (λ i. cond (is_at (nat_cmp c.args.subscription.install) q) (Some (c.in_ok-held.ensures i)) (lookup (is_at (nat_cmp q)) asked)))
    c.question_of-question.ensures.alike c.question_of-question.ensures.up_to

pub returns-in-Ok-clause-ok : goal.returns-in-Ok-clause-ok
returns-in-Ok-clause-ok c =
    let asked = c.self.inside.subscriptions.entries in
    let enrolled = subst (λ m. IsEnrolled m c.self.inside.finders c.enroll.new.self) (c.get.ensures ∙ ap subscription c.in_ok-held.ensures) c.in_ok-enroll.ensures.ok in
    let is =
    more_shown asked c.self.inside.finders c.self.invariant c.enroll.new.self c.args.subscription
    (above_in _ _ c.args.subscription c.self.view_is c.requires.above) (free_in _ _ c.args.subscription c.self.view_is c.requires.free)
    enrolled c.insert.new.self.entries c.question_of-question.result (c.in-Ok.ensures.entries ∙ ap (insert_entry nat_cmp asked c.args.subscription.install) c.in_ok-held.ensures) in
    (λ i. record { subscriptions = is i; instant = (enrolled.found.calendar i).instant })
    ∙ ap (λ (b : BookState). record b { subscriptions = b.subscriptions ++ c.args.subscription ∷ [] }) c.self.view_is

pub strike-requires : goal.strike-requires
strike-requires c =
    subst (λ (m : Subscription). 1 ≤ live_with c.enroll.new.self.strategy m.bare) (sym (c.get-in-Err.ensures ∙ ap (λ p. p.1.subscription) c.in-Err.ensures.value_returned ∙ ap subscription c.in_ok-held.ensures))
    (put_counted _ c.self.inside.finders c.enroll.new.self c.self.invariant.kept c.args.subscription
    (above_in _ _ c.args.subscription c.self.view_is c.requires.above) (free_in _ _ c.args.subscription c.self.view_is c.requires.free)
    (subst (λ m. IsEnrolled m c.self.inside.finders c.enroll.new.self) (c.get.ensures ∙ ap subscription c.in_ok-held.ensures) c.in_ok-enroll.ensures.ok))

pub invariant_of-self-in-Err : goal.invariant_of-self-in-Err
invariant_of-self-in-Err c =
    back_book c.self.inside.subscriptions.entries c.self.inside.finders c.self.invariant c.enroll.new.self c.args.subscription
    (above_in _ _ c.args.subscription c.self.view_is c.requires.above) (free_in _ _ c.args.subscription c.self.view_is c.requires.free)
    (subst (λ m. IsEnrolled m c.self.inside.finders c.enroll.new.self) (c.get.ensures ∙ ap subscription c.in_ok-held.ensures) c.in_ok-enroll.ensures.ok)
    c.insert.new.self.entries c.strike.new.self
    (subst (λ m. IsStruck m c.enroll.new.self c.strike.new.self) (c.get-in-Err.ensures ∙ ap (λ p. p.1.subscription) c.in-Err.ensures.value_returned ∙ ap subscription c.in_ok-held.ensures) c.strike.ensures) c.in-Err.ensures.err
