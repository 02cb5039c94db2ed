use Rattle.std.proofs.Common.{true, ◌∙◌, ap, arith}
use Rattle.std.specs.FinMap.{empty}
use Rattle.std.proofs.lemmas.Result.{IfOk-weaker}
use Rattle.ncq_bag.specs.Bags.{differences}
use Rattle.ncq_plan.specs.Deltas.{signed}
use Rattle.ncq_plan.specs.Relations.{relations}
use Rattle.ncq_plan.specs.Residuals.{passes}
use Rattle.ncq_midfile.specs.Content.{rows_at}
use Rattle.ncq_midfile.specs.Shown.{shown, rows_below}
use Rattle.ncq_callback.specs.Gathered.{answer_of, counts_after}
use Rattle.ncq_news.proofs.FiringLaws.{content_tells, counted_more, counted_all, row_wide}
use Rattle.ncq_news.proofs.firing.entries_at.Goals as goal

pub take-requires-clause-wide : goal.take-requires-clause-wide
take-requires-clause-wide g c = row_wide _ (rows_below c.args.file.now) _ c.row.result.now c.requires.wide c.row.ensures

pub loop-place-preserved : goal.loop-place-preserved
loop-place-preserved g c =
    counted_more (passes (relations c.args.predicates.now.items (λ p. p.name) (λ p. p.relation)) c.args.query.now.residual) (answer_of c.args.query.now.template) c.as_slice-place-items.result.now c.loop-place.place-index (rows_below c.args.file.now)
    c.loop-place.gather.counts _ c.loop-place.invariant c.row.result.now c.take.new.gather.counts c.loop-place-test.true c.row.ensures c.in_ok-take.ensures

pub returns : goal.returns
returns g c =
    let query = c.args.query.now in
    let rows = rows_below c.args.file.now in
    let end = c.loop-place-test.false in
    let all = counted_all (passes (relations c.args.predicates.now.items (λ p. p.name) (λ p. p.relation)) query.residual) (answer_of query.template) c.as_slice-place-items.result.now c.loop-place.place-index rows c.loop-place.gather.counts _
    c.loop-place.invariant (omega arith) in
    IfOk-weaker c.finish.result _ _
    (λ entries are.
    are ∙ ap differences all
    ∙ ap (λ places. differences (counts_after (passes (relations c.args.predicates.now.items (λ p. p.name) (λ p. p.relation)) query.residual) (answer_of query.template) empty (signed true (rows_at places rows)))) c.as_slice-place-items.ensures
    ∙ content_tells (relations c.args.predicates.now.items (λ p. p.name) (λ p. p.relation)) query c.args.now (shown c.args.file.now).rows (rows_at c.in_ok-places.places rows) c.requires.last c.in_ok-places.ensures.content)
    c.finish.ensures
