use Rattle.std.proofs.Common.{ap, ◌∙◌, sym}
use Rattle.ncq_source.specs.Held.{changes_of, map_of, over, with_at}
use Rattle.ncq_source.proofs.Over.{over_set}
use Rattle.ncq_source.proofs.ahead.Ahead.set.Goals as goal

pub returns-in_ok-insert-in-Some-clause-ok : goal.returns-in_ok-insert-in-Some-clause-ok
returns-in_ok-insert-in-Some-clause-ok c =
    let kept = map_of c.self.inside.elements.now.pairs in
    rw (← c.self.view_is)
    (over_set kept c.in-Some.changed.entries c.insert.new.self.entries c.args.key c.args.after c.in_ok-insert-in-Some.ensures.updates.0
    ∙ ap (λ o. with_at (over kept (changes_of o)) c.args.key c.args.after) (sym c.in-Some.is))

pub returns-in_ok-insert-in-None-clause-ok : goal.returns-in_ok-insert-in-None-clause-ok
returns-in_ok-insert-in-None-clause-ok c =
    let kept = map_of c.self.inside.elements.now.pairs in
    rw (← c.self.view_is)
    (over_set kept c.with_hasher-changed.result.entries c.insert-in-None.new.self.entries c.args.key c.args.after c.in_ok-insert-in-None.ensures.updates.0
    ∙ ap (λ changes. with_at (over kept changes) c.args.key c.args.after) c.with_hasher-changed.ensures.empty
    ∙ ap (λ o. with_at (over kept (changes_of o)) c.args.key c.args.after) (sym c.in-None.is))
