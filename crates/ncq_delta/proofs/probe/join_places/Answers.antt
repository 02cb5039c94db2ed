use Rattle.std.proofs.Common.{◌++◌, ◌∷◌, [], ap, ◌∙◌, arith}
use Rattle.ncq_midfile.specs.Shown.{rows_below}
use Rattle.ncq_delta.specs.Probes.{beside}
use Rattle.ncq_delta.proofs.JoinLaws.{put_more}
use Rattle.ncq_delta.proofs.probe.join_places.Goals as goal

pub loop-place-preserved : goal.loop-place-preserved
loop-place-preserved g c =
    let before = c.loop-place.invariant.cost in
    let cost = c.join_beside.ensures.cost in
    record {
      rows = put_more c.args.places.now c.loop-place.place-index (rows_below c.args.other.now) c.row.result.now c.loop-place-test.true c.row.ensures
          (beside c.args.side c.args.row.now) c.loop-place.rows c.push.new.self c.loop-place.invariant.rows
          (c.in_ok-push.ensures.ok ∙ ap (λ y. c.loop-place.rows ++ y ∷ []) c.in_ok-join_beside.ensures.row);
      cost = omega arith;
    }
