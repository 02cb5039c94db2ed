use Rattle.std.proofs.Common.{◌≡◌, ◌+◌, sym, ◌∙◌, ap, arith}
use Rattle.ncq_event.specs.Calendars.{expired_at}
use Rattle.ncq_event.proofs.CalendarSteps.{if_ok_both}
use Rattle.ncq_event.proofs.ExpiryLaws.{expired_are, none_expired}
use Rattle.ncq_event.proofs.calendar.Calendar.expired.Goals as goal

pub returns-in_default : goal.returns-in_default
returns-in_default c =
    let none = c.in_default.ensures in
    let first : c.args.at ≡ 0 = omega arith in
    c.new.ensures ∙ sym (ap (λ at. expired_at at c.args.self.now.entries) first ∙ none_expired c.args.self.now.entries)

pub returns : goal.returns
returns c =
    let some = c.in-Some.ensures in
    let next : c.in-Some.last + 1 ≡ c.args.at = omega arith in
    let is = c.self.invariant in
    if_ok_both _ _ _ c.installs_of.result (λ installs moved sorted.
    expired_are c.in-Some.last c.args.at next c.self.inside.timings.entries c.self.inside.expiries c.as_slice.result.now installs is.rising is.expiries (c.as_slice.ensures ∙ c.in_ok-expiries.ensures) moved sorted
    ∙ (λ i. expired_at c.args.at (c.self.view_is i).entries)) c.installs_of.ensures.same c.installs_of.ensures.sorted
