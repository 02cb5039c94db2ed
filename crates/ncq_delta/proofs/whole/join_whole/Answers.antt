use Rattle.std.proofs.Common.{◌∙◌, subst, arith}
use Rattle.std.specs.List.{flat_map}
use Rattle.std.proofs.lemmas.List.{take_all}
use Rattle.ncq_base.specs.Counts.{SameCounts}
use Rattle.ncq_base.proofs.CountLaws.{counts-length}
use Rattle.ncq_midfile.specs.Content.{rows_at}
use Rattle.ncq_delta.specs.declared.probe.Side.TheVariants.{Left}
use Rattle.ncq_midfile.specs.Shown.{shown, rows_below}
use Rattle.ncq_delta.specs.Probes.{joined_on}
use Rattle.ncq_delta.proofs.JoinLaws.{whole_more, whole_left, whole_is}
use Rattle.ncq_delta.proofs.whole.join_whole.Goals as goal

pub loop-place-preserved : goal.loop-place-preserved
loop-place-preserved g c =
    let pairs = c.args.pairs.now in
    let places = c.as_slice-place-items.result.now in
    let i = c.loop-place.place-index in
    let inv = c.loop-place.invariant in
    record {
      rows = λ list content.
          whole_more pairs list places i (rows_below c.args.left.now) c.row.result.now c.loop-place-test.true c.row.ensures c.loop-place.out c.append.new.self c.in_ok-joined.field-0
          c.in_ok-append.ensures.ok (c.in_ok-joined.ensures.rows list content) (inv.rows list content);
      cost = λ list content.
          let left = whole_left pairs list places i (rows_below c.args.left.now) c.row.result.now c.loop-place-test.true c.row.ensures in
          let before = inv.cost list content in
          let one = c.joined.ensures.cost list content in
          omega arith;
    }

pub returns-in_err-joined-clause-cost : goal.returns-in_err-joined-clause-cost
returns-in_err-joined-clause-cost g c = λ lefts rights content_left content.
    let pairs = c.args.pairs.now in
    let places = c.as_slice-place-items.result.now in
    let left = whole_left pairs rights places c.loop-place.place-index (rows_below c.args.left.now) c.row.result.now c.loop-place-test.true c.row.ensures in
    let before = c.loop-place.invariant.cost rights content in
    let one = c.joined.ensures.cost rights content in
    let long = counts-length _ _ (whole_is pairs c.args.number (shown c.args.left.now).rows (rows_below c.args.left.now) c.in_ok-places.places places lefts rights c.as_slice-place-items.ensures c.in_ok-places.ensures.content content_left) in
    omega arith

pub returns-in_err-append-clause-cost : goal.returns-in_err-append-clause-cost
returns-in_err-append-clause-cost g c = λ lefts rights content_left content.
    let pairs = c.args.pairs.now in
    let places = c.as_slice-place-items.result.now in
    let left = whole_left pairs rights places c.loop-place.place-index (rows_below c.args.left.now) c.row.result.now c.loop-place-test.true c.row.ensures in
    let before = c.loop-place.invariant.cost rights content in
    let one = c.joined.ensures.cost rights content in
    let long = counts-length _ _ (whole_is pairs c.args.number (shown c.args.left.now).rows (rows_below c.args.left.now) c.in_ok-places.places places lefts rights c.as_slice-place-items.ensures c.in_ok-places.ensures.content content_left) in
    omega arith

pub returns-clause-rows : goal.returns-clause-rows
returns-clause-rows g c = λ lefts rights content_left content.
    let pairs = c.args.pairs.now in
    let places = c.as_slice-place-items.result.now in
    let none = c.loop-place-test.false in
    let out = subst (λ ps. SameCounts c.loop-place.out (flat_map (joined_on Left pairs rights) (rows_at ps (rows_below c.args.left.now))))
    (take_all c.loop-place.place-index places (omega arith)) (c.loop-place.invariant.rows rights content) in
    λ f. out f ∙ whole_is pairs c.args.number (shown c.args.left.now).rows (rows_below c.args.left.now) c.in_ok-places.places places lefts rights c.as_slice-place-items.ensures c.in_ok-places.ensures.content content_left f

pub returns-clause-cost : goal.returns-clause-cost
returns-clause-cost g c = λ lefts rights content_left content.
    let pairs = c.args.pairs.now in
    let places = c.as_slice-place-items.result.now in
    let before = c.loop-place.invariant.cost rights content in
    let long = counts-length _ _ (whole_is pairs c.args.number (shown c.args.left.now).rows (rows_below c.args.left.now) c.in_ok-places.places places lefts rights c.as_slice-place-items.ensures c.in_ok-places.ensures.content content_left) in
    omega arith
