use Rattle.std.proofs.Common.{◌≡◌, take}
use Rattle.ncq_event.specs.Agendas.{with_firings}
use Rattle.ncq_event.proofs.agenda.Agenda.add_all.Given as goal

abbrev pub invariant-loop-count : goal.invariant-loop-count
invariant-loop-count l = l.self ≡ with_firings l.initial.self (take l.count l.firings)
