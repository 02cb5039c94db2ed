use Rattle.std.proofs.Common.{◌+◌, drop, ap, sym, ◌∙◌, arith}
use Rattle.std.specs.FinMap.{empty}
use Rattle.std.proofs.lemmas.List.{at_drop_all}
use Rattle.std.proofs.lemmas.Result.{IfOk-weaker}
use Rattle.ncq_bag.specs.Bags.{differences}
use Rattle.ncq_plan.specs.Relations.{relations}
use Rattle.ncq_plan.specs.Residuals.{passes}
use Rattle.ncq_plan.specs.WellFormed.{arms_width}
use Rattle.ncq_midfile.specs.Content.{signed_at}
use Rattle.ncq_midfile.specs.Shown.{rows_below}
use Rattle.ncq_callback.specs.Gathered.{answer_of, counts_after}
use Rattle.ncq_delta.specs.Leads.{unnumbered}
use Rattle.ncq_news.proofs.FiringLaws.{signed_wide, signed_first}
use Rattle.ncq_news.proofs.firing.entries_since.Goals as goal

pub take-requires-clause-wide : goal.take-requires-clause-wide
take-requires-clause-wide g c = signed_wide (arms_width c.args.query.now.arms) (rows_below c.args.file.now) _ c.signed-signed.result.now c.requires.wide c.signed-signed.ensures

pub loop-place-preserved : goal.loop-place-preserved
loop-place-preserved g c =
    let test = passes (relations c.args.predicates.now.items (λ p. p.name) (λ p. p.relation)) c.args.query.now.residual in
    let bytes = answer_of c.args.query.now.template in
    let below = rows_below c.args.file.now in
    let items = c.as_slice-place-items.result.now in
    let i = c.loop-place.place-index in
    ap (λ m. counts_after test bytes m (unnumbered (signed_at (drop (i + 1) items) below))) c.in_ok-take.ensures
    ∙ ap (λ rs. counts_after test bytes c.loop-place.gather.counts (unnumbered rs)) (sym (signed_first items i below c.signed-signed.result.now c.loop-place-test.true c.signed-signed.ensures))
    ∙ c.loop-place.invariant

pub returns : goal.returns
returns g c =
    let test = passes (relations c.args.predicates.now.items (λ p. p.name) (λ p. p.relation)) c.args.query.now.residual in
    let bytes = answer_of c.args.query.now.template in
    let below = rows_below c.args.file.now in
    let items = c.as_slice-place-items.result.now in
    let end = c.loop-place-test.false in
    let all = sym (at_drop_all (λ ps. counts_after test bytes c.loop-place.gather.counts (unnumbered (signed_at ps below))) items c.loop-place.place-index (omega arith)) ∙ c.loop-place.invariant in
    IfOk-weaker c.finish.result _ _
    (λ entries are. are ∙ ap differences all
    ∙ ap (λ rs. differences (counts_after test bytes empty (unnumbered rs))) (ap (λ ps. signed_at ps below) c.as_slice-place-items.ensures ∙ c.in_ok-places.ensures.rows))
    c.finish.ensures
