use Rattle.std.proofs.Common.{length, map, ap, ◌∙◌, arith}
use Rattle.ncq_base.specs.Counts.{total_by}
use Rattle.ncq_midfile.specs.Content.{rows_at}
use Rattle.ncq_midfile.specs.Shown.{rows_below}
use Rattle.ncq_delta.specs.Probes.{beside}
use Rattle.ncq_delta.proofs.JoinLaws.{joined_counts, joined_length, if_ok}
use Rattle.ncq_delta.proofs.probe.joined.Goals as goal

pub returns-clause-rows : goal.returns-clause-rows
returns-clause-rows g c =
    let probe = c.args.probe.now in
    let row = c.args.row.now in
    let rows = (rows_below probe.other.now) in
    if_ok c.join_places.result _ _ c.join_places.ensures.rows (λ joined is list content f.
    ap (total_by f) (is ∙ ap (λ places. map (beside probe.side row) (rows_at places rows)) c.as_slice.ensures)
    ∙ joined_counts probe.side probe.pairs.now row c.as_slice-slots.result.now c.in_ok-key.key rows c.in_ok-places.places list
    (c.as_slice-slots.ensures ∙ c.requires.ready.slots_are) c.in_ok-key.ensures (c.in_ok-places.ensures.counts list content) f)

pub returns-clause-cost : goal.returns-clause-cost
returns-clause-cost g c = λ list content.
    let probe = c.args.probe.now in
    let long = joined_length probe.side probe.pairs.now c.args.row.now c.as_slice-slots.result.now c.in_ok-key.key (rows_below probe.other.now) c.in_ok-places.places list
    (c.as_slice-slots.ensures ∙ c.requires.ready.slots_are) c.in_ok-key.ensures (c.in_ok-places.ensures.counts list content) c.in_ok-places.ensures.gains in
    let same = ap length c.as_slice.ensures in
    let cost = c.join_places.ensures.cost in
    omega arith
