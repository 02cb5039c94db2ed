use Rattle.std.proofs.Common.{◌≡◌, ◌-◌, ◌^◌, take}
use Rattle.std.specs.List.{flat_map}
use Rattle.ncq_event.specs.Calendars.{next_of}
use Rattle.ncq_event.proofs.calendar.next_firings.Given as goal

abbrev pub invariant-loop-firing : goal.invariant-loop-firing
invariant-loop-firing l =
    l.next ≡ flat_map (next_of (2 ^ 64 - 1) l.timings.entries l.at) (take l.firing-index l.firings)
