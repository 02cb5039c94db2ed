use Rattle.std.proofs.Common.{◌≤◌, ◌+◌, length, ap, ◌∙◌, subst}
use Rattle.std.specs.Map.{keys_of}
use Rattle.ncq_midfile.specs.Content.{signed_at}
use Rattle.ncq_midfile.specs.Shown.{rows_below}
use Rattle.ncq_midfile.specs.Views.{is_held, of_rows}
use Rattle.ncq_split.proofs.SplitLaws.{made_more, cost_more, cost_most, of_rows_append}
use Rattle.ncq_split.proofs.range.split_range.Goals as goal

pub returns-in_err-add_held-clause-cost : goal.returns-in_err-add_held-clause-cost
returns-in_err-add_held-clause-cost g c =
    let held = is_held c.args.slot (keys_of c.args.table.now) in
    let below = rows_below c.args.input.now in
    let whole = ap (λ ps. signed_at ps below) c.as_slice-place-items.ensures ∙ c.in_ok-places.ensures.rows in
    subst (λ rs. c.add_held.new.steps ≤ c.args.steps.now + length (of_rows held rs)) whole
    (cost_most (of_rows held) (of_rows_append held) c.as_slice-place-items.result.now c.loop-place.place-index below c.signed.result.now c.loop-place-test.true c.signed.ensures
    c.args.steps.now c.loop-place.steps c.add_held.new.steps c.loop-place.invariant.cost c.add_held.ensures.cost)

pub loop-place-preserved : goal.loop-place-preserved
loop-place-preserved g c =
    let held = is_held c.args.slot (keys_of c.args.table.now) in
    let below = rows_below c.args.input.now in
    record {
      rows = made_more (of_rows held) (of_rows_append held) c.as_slice-place-items.result.now c.loop-place.place-index below c.signed.result.now c.loop-place-test.true c.signed.ensures
          c.loop-place.rows c.add_held.new.rows c.loop-place.invariant.rows c.in_ok-add_held.ensures.rows;
      cost = cost_more (of_rows held) (of_rows_append held) c.as_slice-place-items.result.now c.loop-place.place-index below c.signed.result.now c.loop-place-test.true c.signed.ensures
          c.args.steps.now c.loop-place.steps c.add_held.new.steps c.loop-place.invariant.cost c.add_held.ensures.cost;
    }
