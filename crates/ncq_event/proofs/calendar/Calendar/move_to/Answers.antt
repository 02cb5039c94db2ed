use Rattle.std.proofs.Common.{◌≤◌, ◌∙◌, ap, arith, subst, sym}
use Rattle.ncq_event.specs.Agendas.{without_firings, with_firings}
use Rattle.ncq_event.proofs.CalendarMoves.{next_once, moved}
use Rattle.ncq_event.proofs.calendar.Calendar.move_to.Goals as goal

pub add_all-requires-clause-once : goal.add_all-requires-clause-once
add_all-requires-clause-once c =
    let fits = c.ranges.to.fits in
    let within : c.args.to ≤ 18446744073709551615 = omega arith in
    let up : c.self.inside.instant ≤ c.args.to = subst (λ s. s.instant ≤ c.args.to) (sym c.self.view_is) c.requires in
    next_once _ c.self.inside.instant c.args.to c.self.inside.timings.entries c.self.inside.firings c.self.inside.expiries c.self.invariant up within
    c.as_slice.result.now c.as_slice-2.result.now (c.as_slice.ensures ∙ c.in_ok-due.ensures) (c.as_slice-2.ensures ∙ c.in_ok-next.ensures)

pub invariant_of-self-2 : goal.invariant_of-self-2
invariant_of-self-2 c =
    let fits = c.ranges.to.fits in
    let within : c.args.to ≤ 18446744073709551615 = omega arith in
    let up : c.self.inside.instant ≤ c.args.to = subst (λ s. s.instant ≤ c.args.to) (sym c.self.view_is) c.requires in
    moved _ c.self.inside.instant c.args.to c.self.inside.timings.entries c.self.inside.firings c.self.inside.expiries c.self.invariant up within
    c.as_slice.result.now c.as_slice-2.result.now (c.as_slice.ensures ∙ c.in_ok-due.ensures) (c.as_slice-2.ensures ∙ c.in_ok-next.ensures)
    c.remove_all.new.self
    (c.remove_all.ensures ∙ ap (λ xs. without_firings xs c.as_slice-3.result.now) c.in_ok-add_all.ensures.ok ∙ ap (without_firings (with_firings c.self.inside.firings c.as_slice-2.result.now)) (c.as_slice-3.ensures ∙ sym c.as_slice.ensures))
