use Rattle.std.proofs.Common.{◌≡◌, ◌∙◌, [], ◌∷◌, rules}
use Rattle.ncq_book.specs.Books.{timers_of, watchers_of}
use Rattle.ncq_engine.specs.Compactions.{least_among}
use Rattle.ncq_engine.proofs.LeastLaws.{least_is}
use Rattle.ncq_engine.proofs.compaction.least_mark.Goals as goal

pub returns : goal.returns
returns c =
    let store = c.args.store.now in
    let all = c.args.book.now.subscriptions in
    let watchers : c.as_slice.result.now ≡ watchers_of (c.args.number ∷ []) all = search rules in
    let timers : c.as_slice-2.result.now ≡ timers_of (c.args.number ∷ []) all = search rules in
    let least = c.least_among-least.ensures ∙ (λ i. least_among store all (watchers i) (c.changes.ensures i)) in
    c.least_among.ensures ∙ (λ i. least_among store all (timers i) (least i)) ∙ least_is store all c.facts.ensures.rise c.args.number
