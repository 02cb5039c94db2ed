use Rattle.std.proofs.Common.{◌∙◌, sym}
use Rattle.std.proofs.lemmas.List.{append-nil}
use Rattle.ncq_event.proofs.CalendarMoves.{next_more}
use Rattle.ncq_event.proofs.calendar.next_firings.Goals as goal
use Rattle.ncq_event.proofs.calendar.next_firings.Goals.{in-Some+in_ok-push, in_default}

pub loop-firing-preserved : goal.loop-firing-preserved
loop-firing-preserved c =
    elim c.match-next_after.branch [
      | in-Some+in_ok-push w ↦
          next_more _ c.args.at c.args.timings.now.entries c.args.firings.now c.loop-firing.firing-index (record { instant = 0; install = 0 }) c.loop-firing-test.true c.loop-firing.next _ _ c.loop-firing.invariant
          (sym c.next_after.ensures ∙ w.in-Some.is) (w.next-is ∙ w.in_ok-push.ensures.ok)
      | in_default w ↦
          next_more _ c.args.at c.args.timings.now.entries c.args.firings.now c.loop-firing.firing-index (record { instant = 0; install = 0 }) c.loop-firing-test.true c.loop-firing.next _ _ c.loop-firing.invariant
          (sym c.next_after.ensures ∙ w.in_default.is) (w.next-is ∙ sym (append-nil _))
    ]
