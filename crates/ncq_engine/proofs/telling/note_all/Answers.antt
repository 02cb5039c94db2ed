use Rattle.std.proofs.Common.{◌≡◌, ◌∙◌, ◌+◌, ◌<◌, ◌≤◌, ◌∷◌, arith, drop, length, get_or, ap, sym, List}
use Rattle.std.proofs.lemmas.List.{drop_more, drop_all}
use Rattle.ncq_event.specs.declared.firing.Firing.{Firing}
use Rattle.ncq_engine.specs.Tellings.{noted_by}
use Rattle.ncq_engine.proofs.NotedLaws.{noted_none, noted_twice}
use Rattle.ncq_engine.proofs.telling.note_all.Goals as goal

pub loop-firing-preserved : goal.loop-firing-preserved
loop-firing-preserved c =
    let firings = c.args.firings.now in
    let at = c.loop-firing.firing-index in
    let number = c.args.number in
    let one : Firing = get_or firings at (record { instant = 0; install = 0 }) in
    let here : at < length firings = c.loop-firing-test.true in
    let left : drop at firings ≡ one ∷ drop (at + 1) firings = drop_more firings at (record { instant = 0; install = 0 }) here in
    record {
      subscriptions = ap (noted_by number (drop (at + 1) firings)) c.note.ensures.subscriptions
          ∙ noted_twice number one (drop (at + 1) firings) c.loop-firing.live_table.subscriptions
          ∙ ap (λ (fs : List Firing). noted_by number fs c.loop-firing.live_table.subscriptions) (sym left)
          ∙ c.loop-firing.invariant.subscriptions;
      table = c.note.ensures.table ∙ c.loop-firing.invariant.table;
      instant = c.note.ensures.instant ∙ c.loop-firing.invariant.instant;
    }

pub returns : goal.returns
returns c =
    let past : length c.args.firings.now ≤ c.loop-firing.firing-index = omega (arith, c.loop-firing-test.false) in
    let inv = c.loop-firing.invariant in
    let subscriptions = sym (noted_none c.args.number c.loop-firing.live_table.subscriptions) ∙ ap (λ (fs : List Firing). noted_by c.args.number fs c.loop-firing.live_table.subscriptions) (sym (drop_all c.loop-firing.firing-index c.args.firings.now past)) ∙ inv.subscriptions in
    λ i. record { table = inv.table i; subscriptions = subscriptions i; instant = inv.instant i }
