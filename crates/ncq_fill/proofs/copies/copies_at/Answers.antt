use Rattle.std.proofs.Common.{arith}
use Rattle.ncq_midfile.specs.Shown.{rows_below}
use Rattle.ncq_fill.proofs.FileLaws.{copied_more}
use Rattle.ncq_fill.proofs.copies.copies_at.Goals as goal

pub loop-place-preserved : goal.loop-place-preserved
loop-place-preserved g c =
    let before = c.loop-place.invariant.cost in
    let cost = c.copy.ensures.cost in
    record {
      rows = copied_more c.args.places.now c.loop-place.place-index (rows_below c.args.file.now) c.row.result.now c.loop-place-test.true c.row.ensures c.loop-place.rows c.push.new.self c.in_ok-copy.field-0
          c.loop-place.invariant.rows c.in_ok-push.ensures.ok c.in_ok-copy.ensures.row;
      cost = omega arith;
    }
