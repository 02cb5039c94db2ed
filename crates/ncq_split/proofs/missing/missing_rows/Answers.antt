use Rattle.std.proofs.Common.{◌≡◌, ◌≤◌, ◌+◌, ◌∷◌, [], ◌++◌, length, filter, map, take, ap, sym, ◌∙◌, subst, arith}
use Rattle.std.specs.Map.{keys_of}
use Rattle.std.proofs.lemmas.List.{take_all, length-map}
use Rattle.ncq_midfile.specs.Content.{rows_at, signed_at}
use Rattle.ncq_midfile.specs.Made.{gained_at}
use Rattle.ncq_midfile.specs.Shown.{shown, rows_below}
use Rattle.ncq_midfile.specs.Views.{IsContentOf, is_unheld, is_within}
use Rattle.ncq_split.proofs.SplitLaws.{made_more, cost_more, cost_most, brought, brought_append, brought_length, only_found}
use Rattle.ncq_split.proofs.missing.missing_rows.Goals as goal

pub returns-in_err-add_missing-clause-cost : goal.returns-in_err-add_missing-clause-cost
returns-in_err-add_missing-clause-cost g c = λ list content.
    let within = is_within c.args.slot c.args.interval.now in
    let unheld = is_unheld c.args.slot (keys_of c.args.standing.now) in
    let below = rows_below c.args.input.now in
    let items = c.as_slice-place-items.result.now in
    let at = subst (λ ps. IsContentOf within c.args.n (shown c.args.input.now).rows (rows_at ps below)) (sym c.as_slice-place-items.ensures) c.in_ok-places.ensures.content in
    let most = cost_most (brought unheld c.args.n) (brought_append unheld c.args.n) items c.loop-place.place-index below c.signed-signed.result.now c.loop-place-test.true c.signed-signed.ensures
    c.args.steps.now c.loop-place.steps c.add_missing.new.steps c.loop-place.invariant.cost
    (subst (λ k. c.add_missing.new.steps ≤ c.loop-place.steps + k) (sym (length-map (filter unheld (c.signed-signed.result.now.row ∷ [])) (gained_at c.args.n))) c.add_missing.ensures.cost) in
    let long = brought_length within unheld c.args.n (shown c.args.input.now).rows below items list at content in
    omega arith

pub loop-place-preserved : goal.loop-place-preserved
loop-place-preserved g c =
    let unheld = is_unheld c.args.slot (keys_of c.args.standing.now) in
    let below = rows_below c.args.input.now in
    let items = c.as_slice-place-items.result.now in
    record {
      rows = made_more (brought unheld c.args.n) (brought_append unheld c.args.n) items c.loop-place.place-index below c.signed-signed.result.now c.loop-place-test.true c.signed-signed.ensures
          c.loop-place.added c.add_missing.new.added c.loop-place.invariant.rows c.in_ok-add_missing.ensures.rows;
      cost = cost_more (brought unheld c.args.n) (brought_append unheld c.args.n) items c.loop-place.place-index below c.signed-signed.result.now c.loop-place-test.true c.signed-signed.ensures
          c.args.steps.now c.loop-place.steps c.add_missing.new.steps c.loop-place.invariant.cost
          (subst (λ k. c.add_missing.new.steps ≤ c.loop-place.steps + k) (sym (length-map (filter unheld (c.signed-signed.result.now.row ∷ [])) (gained_at c.args.n))) c.add_missing.ensures.cost);
    }

pub returns-clause-rows : goal.returns-clause-rows
returns-clause-rows g c =
    let within = is_within c.args.slot c.args.interval.now in
    let unheld = is_unheld c.args.slot (keys_of c.args.standing.now) in
    let below = rows_below c.args.input.now in
    let items = c.as_slice-place-items.result.now in
    let none = c.loop-place-test.false in
    let all = take_all c.loop-place.place-index items (omega arith) in
    let at = subst (λ ps. IsContentOf within c.args.n (shown c.args.input.now).rows (rows_at ps below)) (sym c.as_slice-place-items.ensures) c.in_ok-places.ensures.content in (
      rows_at items below ++ at.1.0,
      at.1.2,
      c.loop-place.invariant.rows
          ∙ ap (λ ps. brought unheld c.args.n (signed_at ps below)) all
          ∙ ap (map (gained_at c.args.n)) (sym (only_found within unheld (rows_at items below) at.1.0 at.0 at.1.1)),
    )

pub returns-clause-cost : goal.returns-clause-cost
returns-clause-cost g c = λ list content.
    let within = is_within c.args.slot c.args.interval.now in
    let unheld = is_unheld c.args.slot (keys_of c.args.standing.now) in
    let below = rows_below c.args.input.now in
    let items = c.as_slice-place-items.result.now in
    let none = c.loop-place-test.false in
    let all = ap (λ ps. length (brought unheld c.args.n (signed_at ps below))) (take_all c.loop-place.place-index items (omega arith)) in
    let at = subst (λ ps. IsContentOf within c.args.n (shown c.args.input.now).rows (rows_at ps below)) (sym c.as_slice-place-items.ensures) c.in_ok-places.ensures.content in
    let long = brought_length within unheld c.args.n (shown c.args.input.now).rows below items list at content in
    let cost = c.loop-place.invariant.cost in
    omega arith
