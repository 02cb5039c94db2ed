use Rattle.std.proofs.Common.{◌≡◌, take}
use Rattle.ncq_event.specs.Agendas.{without_firings}
use Rattle.ncq_event.proofs.agenda.Agenda.remove_all.Given as goal

abbrev pub invariant-loop-firing : goal.invariant-loop-firing
invariant-loop-firing l = l.self ≡ without_firings l.initial.self (take l.firing-index l.firings)
