use Rattle.std.proofs.Common.{arith}
use Rattle.std.proofs.lemmas.Result.{IfOk-weaker}
use Rattle.ncq_midfile.specs.Shown.{rows_below}
use Rattle.ncq_fill.proofs.FileLaws.{keyed_rows, keyed_length}
use Rattle.ncq_fill.proofs.constant.with_constant.Goals as goal

pub returns-clause-counts : goal.returns-clause-counts
returns-clause-counts g c = IfOk-weaker c.copies_at.result _ _
    (λ made is list content. keyed_rows c.args.slot c.args.constant.now (rows_below c.args.file.now) c.in_ok-places.places c.as_slice.result.now list
    c.as_slice.ensures (c.in_ok-places.ensures.counts list content) made is) c.copies_at.ensures.rows

pub returns-clause-cost : goal.returns-clause-cost
returns-clause-cost g c = λ list content.
    let long = keyed_length c.args.slot c.args.constant.now (rows_below c.args.file.now) c.in_ok-places.places c.as_slice.result.now list
    c.as_slice.ensures (c.in_ok-places.ensures.counts list content) c.in_ok-places.ensures.gains in
    let cost = c.copies_at.ensures.cost in
    omega arith
