use Rattle.std.proofs.Common.{◌≡◌, ◌∙◌, ap, rules, take}
use Rattle.ncq_event.specs.Agendas.{without_firings}
use Rattle.ncq_event.proofs.AgendaSteps.{undone_front}
use Rattle.ncq_event.proofs.agenda.Agenda.add_all.Goals as goal

pub returns-then-is_err-clause-err : goal.returns-then-is_err-clause-err
returns-then-is_err-clause-err c =
    let added = take c.loop-count.count c.args.firings.now in
    let same : c.add.new.self ≡ c.loop-count.self = search rules in
    c.remove_all.ensures
    ∙ ap (λ agenda. without_firings agenda added) (same ∙ c.loop-count.invariant)
    ∙ undone_front c.loop-count.count c.args.self.now c.args.firings.now c.requires.rising c.requires.once
