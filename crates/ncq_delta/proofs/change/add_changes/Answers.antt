use Rattle.std.proofs.Common.{map}
use Rattle.ncq_base.proofs.CountLaws.{counts-map}
use Rattle.ncq_midfile.specs.Shown.{rows_below}
use Rattle.ncq_delta.specs.Joins.{with_row}
use Rattle.ncq_delta.specs.Probes.{joined_on, changed_on}
use Rattle.ncq_delta.proofs.JoinLaws.{counts_at_more, cost_at_more, cost_at_most, changed_cost}
use Rattle.ncq_delta.proofs.change.add_changes.Goals as goal

pub returns-in_err-rows-clause-cost : goal.returns-in_err-rows-clause-cost
returns-in_err-rows-clause-cost g c = λ list content.
    let probe = c.args.probe.now in
    let signed = c.signed-signed.result.now in
    cost_at_most (changed_on probe.side probe.pairs.now list) c.args.changed.now c.loop-place.place-index (rows_below c.args.own.now) signed c.loop-place-test.true c.signed-signed.ensures
    c.args.steps.now c.loop-place.steps c.joined.new.steps (c.loop-place.invariant.cost list content)
    (changed_cost probe.side probe.pairs.now list signed c.loop-place.steps c.joined.new.steps (c.joined.ensures.cost list content))

pub returns-in_err-add_signed-clause-cost : goal.returns-in_err-add_signed-clause-cost
returns-in_err-add_signed-clause-cost g c = λ list content.
    let probe = c.args.probe.now in
    let signed = c.signed-signed.result.now in
    cost_at_most (changed_on probe.side probe.pairs.now list) c.args.changed.now c.loop-place.place-index (rows_below c.args.own.now) signed c.loop-place-test.true c.signed-signed.ensures
    c.args.steps.now c.loop-place.steps c.joined.new.steps (c.loop-place.invariant.cost list content)
    (changed_cost probe.side probe.pairs.now list signed c.loop-place.steps c.joined.new.steps (c.joined.ensures.cost list content))

pub loop-place-preserved : goal.loop-place-preserved
loop-place-preserved g c =
    let probe = c.args.probe.now in
    let i = c.loop-place.place-index in
    let signed = c.signed-signed.result.now in
    let inv = c.loop-place.invariant in
    record {
      rows = λ list front content same.
          counts_at_more (changed_on probe.side probe.pairs.now list) c.args.changed.now i (rows_below c.args.own.now) signed c.loop-place-test.true c.signed-signed.ensures
          front c.loop-place.out c.add_signed.new.out (map (with_row signed) c.in_ok-rows.rows) c.in_ok-add_signed.ensures
          (counts-map (with_row signed) c.in_ok-rows.rows (joined_on probe.side probe.pairs.now list signed.row) (c.in_ok-rows.ensures.rows list content)) (inv.rows list front content same);
      cost = λ list content.
          cost_at_more (changed_on probe.side probe.pairs.now list) c.args.changed.now i (rows_below c.args.own.now) signed c.loop-place-test.true c.signed-signed.ensures
          c.args.steps.now c.loop-place.steps c.joined.new.steps
          (inv.cost list content) (changed_cost probe.side probe.pairs.now list signed c.loop-place.steps c.joined.new.steps (c.joined.ensures.cost list content));
    }
