use Rattle.std.proofs.Common.{◌≤◌, ◌+◌, ◌++◌, length, ap, sym, ◌∙◌, subst}
use Rattle.ncq_midfile.specs.Content.{signed_at}
use Rattle.ncq_midfile.specs.Shown.{rows_below}
use Rattle.ncq_split.specs.Splits.{files_equal, parcels_of}
use Rattle.ncq_split.proofs.SplitLaws.{made_more, cost_more, cost_most, parcels_append, parcels_one}
use Rattle.ncq_split.proofs.equal.split_equal.Goals as goal

pub returns-in_err-add_parcel-clause-cost : goal.returns-in_err-add_parcel-clause-cost
returns-in_err-add_parcel-clause-cost g c =
    let files = files_equal c.args.table.now in
    let below = rows_below c.args.input.now in
    let signed = c.signed.result.now in
    let whole = ap (λ ps. signed_at ps below) c.as_slice-place-items.ensures ∙ c.in_ok-places.ensures.rows in
    subst (λ rs. c.add_parcel.new.steps ≤ c.args.steps.now + length (parcels_of files c.args.slot rs)) whole
    (cost_most (parcels_of files c.args.slot) (parcels_append files c.args.slot) c.as_slice-place-items.result.now c.loop-place.place-index below signed c.loop-place-test.true c.signed.ensures
    c.args.steps.now c.loop-place.steps c.add_parcel.new.steps c.loop-place.invariant.cost
    (subst (λ ps. c.add_parcel.new.steps ≤ c.loop-place.steps + length ps) (parcels_one files c.args.slot signed) c.add_parcel.ensures.cost))

pub loop-place-preserved : goal.loop-place-preserved
loop-place-preserved g c =
    let files = files_equal c.args.table.now in
    let below = rows_below c.args.input.now in
    let signed = c.signed.result.now in
    record {
      parcels = made_more (parcels_of files c.args.slot) (parcels_append files c.args.slot) c.as_slice-place-items.result.now c.loop-place.place-index below signed c.loop-place-test.true c.signed.ensures
          c.loop-place.parcels c.add_parcel.new.parcels c.loop-place.invariant.parcels (c.in_ok-add_parcel.ensures.parcels ∙ ap (λ ps. c.loop-place.parcels ++ ps) (parcels_one files c.args.slot signed));
      cost = cost_more (parcels_of files c.args.slot) (parcels_append files c.args.slot) c.as_slice-place-items.result.now c.loop-place.place-index below signed c.loop-place-test.true c.signed.ensures
          c.args.steps.now c.loop-place.steps c.add_parcel.new.steps c.loop-place.invariant.cost
          (subst (λ ps. c.add_parcel.new.steps ≤ c.loop-place.steps + length ps) (parcels_one files c.args.slot signed) c.add_parcel.ensures.cost);
    }
