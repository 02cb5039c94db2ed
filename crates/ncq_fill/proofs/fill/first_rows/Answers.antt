use Rattle.std.proofs.Common.{refl, sym, ap, ◌∙◌}
use Rattle.std.proofs.lemmas.Result.{IfOk-weaker}
use Rattle.ncq_plan.specs.Meets.{has_atom}
use Rattle.ncq_plan.specs.declared.expr.Expr.TheVariants.{Scan}
use Rattle.ncq_change.specs.Stores.{world_in}
use Rattle.ncq_delta.specs.Joins.{left_slots, right_slots}
use Rattle.ncq_fill.proofs.InputFiles.{equal_has_one, join_has_some, equal_selection, joined, asked, told_same, there_same}
use Rattle.ncq_fill.proofs.InputFiles.{selected_ready, selected_counts, selected_cost, ready_first, ready_second, joined_counts, joined_cost, rows_wide, scan_counts, scan_formed, scan_steps}
use Rattle.ncq_fill.proofs.fill.first_rows.Goals as goal

pub only-number-requires : goal.only-number-requires
only-number-requires g c =
    equal_has_one c.args.shelf.now c.args.expr.now c.args.inputs c.requires.inputs c.in-EqSel.input c.in-EqSel.slot c.in-EqSel.constant c.in-EqSel.is

pub sides-left-requires : goal.sides-left-requires
sides-left-requires g c =
    join_has_some c.args.shelf.now c.args.expr.now c.args.inputs c.requires.inputs c.in-Join.left c.in-Join.right c.in-Join.pairs c.in-Join.is

pub ensure_index-requires-clause-there : goal.ensure_index-requires-clause-there
ensure_index-requires-clause-there g c =
    let s = equal_selection c.args.shelf.now c.args.expr.now c.args.inputs c.args.store.now.changes c.changes-now.result (world_in c.args.store.now) c.changes-now.ensures c.requires.inputs c.requires.formed c.requires.up_to c.requires.fits c.only-number.result c.only-number.ensures c.in-EqSel.input c.in-EqSel.slot c.in-EqSel.constant c.in-EqSel.is in
    there_same c.args.shelf.now c.args.shelf.now c.only-number.result s.file refl s.at

pub ensure_index-requires-clause-slots : goal.ensure_index-requires-clause-slots
ensure_index-requires-clause-slots g c =
    let s = equal_selection c.args.shelf.now c.args.expr.now c.args.inputs c.args.store.now.changes c.changes-now.result (world_in c.args.store.now) c.changes-now.ensures c.requires.inputs c.requires.formed c.requires.up_to c.requires.fits c.only-number.result c.only-number.ensures c.in-EqSel.input c.in-EqSel.slot c.in-EqSel.constant c.in-EqSel.is in
    asked c.args.shelf.now c.only-number.result _ c.changes-now.result s.file s.at s.ready

pub content-file-requires : goal.content-file-requires
content-file-requires g c =
    let s = equal_selection c.args.shelf.now c.args.expr.now c.args.inputs c.args.store.now.changes c.changes-now.result (world_in c.args.store.now) c.changes-now.ensures c.requires.inputs c.requires.formed c.requires.up_to c.requires.fits c.only-number.result c.only-number.ensures c.in-EqSel.input c.in-EqSel.slot c.in-EqSel.constant c.in-EqSel.is in
    there_same c.args.shelf.now c.ensure_index.new.self c.only-number.result s.file c.ensure_index.ensures s.at

pub with_constant-requires : goal.with_constant-requires
with_constant-requires g c =
    let s = equal_selection c.args.shelf.now c.args.expr.now c.args.inputs c.args.store.now.changes c.changes-now.result (world_in c.args.store.now) c.changes-now.ensures c.requires.inputs c.requires.formed c.requires.up_to c.requires.fits c.only-number.result c.only-number.ensures c.in-EqSel.input c.in-EqSel.slot c.in-EqSel.constant c.in-EqSel.is in
    selected_ready c.args.shelf.now c.args.expr.now c.only-number.result c.changes-now.result c.in-EqSel.slot (world_in c.args.store.now) (has_atom c.in-EqSel.slot c.in-EqSel.constant) s c.content-file.result
    (told_same c.args.shelf.now c.ensure_index.new.self c.only-number.result c.content-file.result s.file c.ensure_index.ensures c.content-file.ensures.content c.content-file.ensures.wide c.requires.wide s.at)

pub index_sides-requires-clause-left : goal.index_sides-requires-clause-left
index_sides-requires-clause-left g c =
    let j = joined c.args.shelf.now c.args.expr.now c.args.inputs c.args.store.now.changes c.changes-now.result (world_in c.args.store.now) c.changes-now.ensures c.requires.inputs c.requires.formed c.requires.up_to c.requires.fits c.sides-left.result.0 c.sides-left.result.1 c.in-Join.left c.in-Join.right c.in-Join.pairs c.in-Join.is c.sides-left.ensures in
    there_same c.args.shelf.now c.args.shelf.now c.sides-left.result.0 j.first refl j.first_at

pub index_sides-requires-clause-right : goal.index_sides-requires-clause-right
index_sides-requires-clause-right g c =
    let j = joined c.args.shelf.now c.args.expr.now c.args.inputs c.args.store.now.changes c.changes-now.result (world_in c.args.store.now) c.changes-now.ensures c.requires.inputs c.requires.formed c.requires.up_to c.requires.fits c.sides-left.result.0 c.sides-left.result.1 c.in-Join.left c.in-Join.right c.in-Join.pairs c.in-Join.is c.sides-left.ensures in
    there_same c.args.shelf.now c.args.shelf.now c.sides-left.result.1 j.second refl j.second_at

pub index_sides-requires-clause-lefts : goal.index_sides-requires-clause-lefts
index_sides-requires-clause-lefts g c =
    let j = joined c.args.shelf.now c.args.expr.now c.args.inputs c.args.store.now.changes c.changes-now.result (world_in c.args.store.now) c.changes-now.ensures c.requires.inputs c.requires.formed c.requires.up_to c.requires.fits c.sides-left.result.0 c.sides-left.result.1 c.in-Join.left c.in-Join.right c.in-Join.pairs c.in-Join.is c.sides-left.ensures in
    asked c.args.shelf.now c.sides-left.result.0 (left_slots c.in-Join.pairs) c.changes-now.result j.first j.first_at j.first_ready

pub index_sides-requires-clause-rights : goal.index_sides-requires-clause-rights
index_sides-requires-clause-rights g c =
    let j = joined c.args.shelf.now c.args.expr.now c.args.inputs c.args.store.now.changes c.changes-now.result (world_in c.args.store.now) c.changes-now.ensures c.requires.inputs c.requires.formed c.requires.up_to c.requires.fits c.sides-left.result.0 c.sides-left.result.1 c.in-Join.left c.in-Join.right c.in-Join.pairs c.in-Join.is c.sides-left.ensures in
    asked c.args.shelf.now c.sides-left.result.1 (right_slots c.in-Join.pairs) c.changes-now.result j.second j.second_at j.second_ready

pub content-lefts-requires : goal.content-lefts-requires
content-lefts-requires g c =
    let j = joined c.args.shelf.now c.args.expr.now c.args.inputs c.args.store.now.changes c.changes-now.result (world_in c.args.store.now) c.changes-now.ensures c.requires.inputs c.requires.formed c.requires.up_to c.requires.fits c.sides-left.result.0 c.sides-left.result.1 c.in-Join.left c.in-Join.right c.in-Join.pairs c.in-Join.is c.sides-left.ensures in
    there_same c.args.shelf.now c.index_sides.new.shelf c.sides-left.result.0 j.first c.index_sides.ensures j.first_at

pub content-rights-requires : goal.content-rights-requires
content-rights-requires g c =
    let j = joined c.args.shelf.now c.args.expr.now c.args.inputs c.args.store.now.changes c.changes-now.result (world_in c.args.store.now) c.changes-now.ensures c.requires.inputs c.requires.formed c.requires.up_to c.requires.fits c.sides-left.result.0 c.sides-left.result.1 c.in-Join.left c.in-Join.right c.in-Join.pairs c.in-Join.is c.sides-left.ensures in
    there_same c.args.shelf.now c.index_sides.new.shelf c.sides-left.result.1 j.second c.index_sides.ensures j.second_at

pub join_whole-requires-clause-left_base : goal.join_whole-requires-clause-left_base
join_whole-requires-clause-left_base g c =
    let j = joined c.args.shelf.now c.args.expr.now c.args.inputs c.args.store.now.changes c.changes-now.result (world_in c.args.store.now) c.changes-now.ensures c.requires.inputs c.requires.formed c.requires.up_to c.requires.fits c.sides-left.result.0 c.sides-left.result.1 c.in-Join.left c.in-Join.right c.in-Join.pairs c.in-Join.is c.sides-left.ensures in
    (ready_first c.args.shelf.now c.args.expr.now c.sides-left.result.0 c.sides-left.result.1 c.changes-now.result (world_in c.args.store.now) c.in-Join.pairs j c.content-lefts.result c.content-rights.result
    (told_same c.args.shelf.now c.index_sides.new.shelf c.sides-left.result.0 c.content-lefts.result j.first c.index_sides.ensures c.content-lefts.ensures.content c.content-lefts.ensures.wide c.requires.wide j.first_at)
    (told_same c.args.shelf.now c.index_sides.new.shelf c.sides-left.result.1 c.content-rights.result j.second c.index_sides.ensures c.content-rights.ensures.content c.content-rights.ensures.wide c.requires.wide j.second_at)).base

pub join_whole-requires-clause-left_sound : goal.join_whole-requires-clause-left_sound
join_whole-requires-clause-left_sound g c =
    let j = joined c.args.shelf.now c.args.expr.now c.args.inputs c.args.store.now.changes c.changes-now.result (world_in c.args.store.now) c.changes-now.ensures c.requires.inputs c.requires.formed c.requires.up_to c.requires.fits c.sides-left.result.0 c.sides-left.result.1 c.in-Join.left c.in-Join.right c.in-Join.pairs c.in-Join.is c.sides-left.ensures in
    (ready_first c.args.shelf.now c.args.expr.now c.sides-left.result.0 c.sides-left.result.1 c.changes-now.result (world_in c.args.store.now) c.in-Join.pairs j c.content-lefts.result c.content-rights.result
    (told_same c.args.shelf.now c.index_sides.new.shelf c.sides-left.result.0 c.content-lefts.result j.first c.index_sides.ensures c.content-lefts.ensures.content c.content-lefts.ensures.wide c.requires.wide j.first_at)
    (told_same c.args.shelf.now c.index_sides.new.shelf c.sides-left.result.1 c.content-rights.result j.second c.index_sides.ensures c.content-rights.ensures.content c.content-rights.ensures.wide c.requires.wide j.second_at)).sound

pub join_whole-requires-clause-lefts : goal.join_whole-requires-clause-lefts
join_whole-requires-clause-lefts g c =
    let j = joined c.args.shelf.now c.args.expr.now c.args.inputs c.args.store.now.changes c.changes-now.result (world_in c.args.store.now) c.changes-now.ensures c.requires.inputs c.requires.formed c.requires.up_to c.requires.fits c.sides-left.result.0 c.sides-left.result.1 c.in-Join.left c.in-Join.right c.in-Join.pairs c.in-Join.is c.sides-left.ensures in
    (ready_first c.args.shelf.now c.args.expr.now c.sides-left.result.0 c.sides-left.result.1 c.changes-now.result (world_in c.args.store.now) c.in-Join.pairs j c.content-lefts.result c.content-rights.result
    (told_same c.args.shelf.now c.index_sides.new.shelf c.sides-left.result.0 c.content-lefts.result j.first c.index_sides.ensures c.content-lefts.ensures.content c.content-lefts.ensures.wide c.requires.wide j.first_at)
    (told_same c.args.shelf.now c.index_sides.new.shelf c.sides-left.result.1 c.content-rights.result j.second c.index_sides.ensures c.content-rights.ensures.content c.content-rights.ensures.wide c.requires.wide j.second_at)).within

pub join_whole-requires-clause-right_base : goal.join_whole-requires-clause-right_base
join_whole-requires-clause-right_base g c =
    let j = joined c.args.shelf.now c.args.expr.now c.args.inputs c.args.store.now.changes c.changes-now.result (world_in c.args.store.now) c.changes-now.ensures c.requires.inputs c.requires.formed c.requires.up_to c.requires.fits c.sides-left.result.0 c.sides-left.result.1 c.in-Join.left c.in-Join.right c.in-Join.pairs c.in-Join.is c.sides-left.ensures in
    (ready_second c.args.shelf.now c.args.expr.now c.sides-left.result.0 c.sides-left.result.1 c.changes-now.result (world_in c.args.store.now) c.in-Join.pairs j c.content-lefts.result c.content-rights.result
    (told_same c.args.shelf.now c.index_sides.new.shelf c.sides-left.result.0 c.content-lefts.result j.first c.index_sides.ensures c.content-lefts.ensures.content c.content-lefts.ensures.wide c.requires.wide j.first_at)
    (told_same c.args.shelf.now c.index_sides.new.shelf c.sides-left.result.1 c.content-rights.result j.second c.index_sides.ensures c.content-rights.ensures.content c.content-rights.ensures.wide c.requires.wide j.second_at)).base

pub join_whole-requires-clause-right_sound : goal.join_whole-requires-clause-right_sound
join_whole-requires-clause-right_sound g c =
    let j = joined c.args.shelf.now c.args.expr.now c.args.inputs c.args.store.now.changes c.changes-now.result (world_in c.args.store.now) c.changes-now.ensures c.requires.inputs c.requires.formed c.requires.up_to c.requires.fits c.sides-left.result.0 c.sides-left.result.1 c.in-Join.left c.in-Join.right c.in-Join.pairs c.in-Join.is c.sides-left.ensures in
    (ready_second c.args.shelf.now c.args.expr.now c.sides-left.result.0 c.sides-left.result.1 c.changes-now.result (world_in c.args.store.now) c.in-Join.pairs j c.content-lefts.result c.content-rights.result
    (told_same c.args.shelf.now c.index_sides.new.shelf c.sides-left.result.0 c.content-lefts.result j.first c.index_sides.ensures c.content-lefts.ensures.content c.content-lefts.ensures.wide c.requires.wide j.first_at)
    (told_same c.args.shelf.now c.index_sides.new.shelf c.sides-left.result.1 c.content-rights.result j.second c.index_sides.ensures c.content-rights.ensures.content c.content-rights.ensures.wide c.requires.wide j.second_at)).sound

pub join_whole-requires-clause-rights : goal.join_whole-requires-clause-rights
join_whole-requires-clause-rights g c =
    let j = joined c.args.shelf.now c.args.expr.now c.args.inputs c.args.store.now.changes c.changes-now.result (world_in c.args.store.now) c.changes-now.ensures c.requires.inputs c.requires.formed c.requires.up_to c.requires.fits c.sides-left.result.0 c.sides-left.result.1 c.in-Join.left c.in-Join.right c.in-Join.pairs c.in-Join.is c.sides-left.ensures in
    (ready_second c.args.shelf.now c.args.expr.now c.sides-left.result.0 c.sides-left.result.1 c.changes-now.result (world_in c.args.store.now) c.in-Join.pairs j c.content-lefts.result c.content-rights.result
    (told_same c.args.shelf.now c.index_sides.new.shelf c.sides-left.result.0 c.content-lefts.result j.first c.index_sides.ensures c.content-lefts.ensures.content c.content-lefts.ensures.wide c.requires.wide j.first_at)
    (told_same c.args.shelf.now c.index_sides.new.shelf c.sides-left.result.1 c.content-rights.result j.second c.index_sides.ensures c.content-rights.ensures.content c.content-rights.ensures.wide c.requires.wide j.second_at)).within

pub returns-in_ok-ensure_index-in-EqSel-clause-counts : goal.returns-in_ok-ensure_index-in-EqSel-clause-counts
returns-in_ok-ensure_index-in-EqSel-clause-counts g c =
    let s = equal_selection c.args.shelf.now c.args.expr.now c.args.inputs c.args.store.now.changes c.changes-now.result (world_in c.args.store.now) c.changes-now.ensures c.requires.inputs c.requires.formed c.requires.up_to c.requires.fits c.only-number.result c.only-number.ensures c.in-EqSel.input c.in-EqSel.slot c.in-EqSel.constant c.in-EqSel.is in
    IfOk-weaker c.with_constant.result _ _ (selected_counts c.args.shelf.now c.args.expr.now c.only-number.result c.changes-now.result c.in-EqSel.slot (world_in c.args.store.now) (has_atom c.in-EqSel.slot c.in-EqSel.constant) s c.content-file.result
    (told_same c.args.shelf.now c.ensure_index.new.self c.only-number.result c.content-file.result s.file c.ensure_index.ensures c.content-file.ensures.content c.content-file.ensures.wide c.requires.wide s.at)) c.with_constant.ensures.counts

pub returns-in_ok-ensure_index-in-EqSel-clause-wide : goal.returns-in_ok-ensure_index-in-EqSel-clause-wide
returns-in_ok-ensure_index-in-EqSel-clause-wide g c =
    let s = equal_selection c.args.shelf.now c.args.expr.now c.args.inputs c.args.store.now.changes c.changes-now.result (world_in c.args.store.now) c.changes-now.ensures c.requires.inputs c.requires.formed c.requires.up_to c.requires.fits c.only-number.result c.only-number.ensures c.in-EqSel.input c.in-EqSel.slot c.in-EqSel.constant c.in-EqSel.is in
    IfOk-weaker c.with_constant.result _ _ (λ rows counts. rows_wide (world_in c.args.store.now) c.args.expr.now rows (selected_counts c.args.shelf.now c.args.expr.now c.only-number.result c.changes-now.result c.in-EqSel.slot (world_in c.args.store.now) (has_atom c.in-EqSel.slot c.in-EqSel.constant) s c.content-file.result
    (told_same c.args.shelf.now c.ensure_index.new.self c.only-number.result c.content-file.result s.file c.ensure_index.ensures c.content-file.ensures.content c.content-file.ensures.wide c.requires.wide s.at) rows counts)) c.with_constant.ensures.counts

pub returns-in_ok-ensure_index-in-EqSel-clause-cost : goal.returns-in_ok-ensure_index-in-EqSel-clause-cost
returns-in_ok-ensure_index-in-EqSel-clause-cost g c =
    let s = equal_selection c.args.shelf.now c.args.expr.now c.args.inputs c.args.store.now.changes c.changes-now.result (world_in c.args.store.now) c.changes-now.ensures c.requires.inputs c.requires.formed c.requires.up_to c.requires.fits c.only-number.result c.only-number.ensures c.in-EqSel.input c.in-EqSel.slot c.in-EqSel.constant c.in-EqSel.is in
    selected_cost c.args.shelf.now c.args.expr.now c.only-number.result c.changes-now.result c.in-EqSel.slot (world_in c.args.store.now) (has_atom c.in-EqSel.slot c.in-EqSel.constant) s c.content-file.result
    (told_same c.args.shelf.now c.ensure_index.new.self c.only-number.result c.content-file.result s.file c.ensure_index.ensures c.content-file.ensures.content c.content-file.ensures.wide c.requires.wide s.at) c.args.steps.now c.with_constant.new.steps c.with_constant.ensures.cost

pub returns-in_ok-index_sides-in-Join-clause-counts : goal.returns-in_ok-index_sides-in-Join-clause-counts
returns-in_ok-index_sides-in-Join-clause-counts g c =
    let j = joined c.args.shelf.now c.args.expr.now c.args.inputs c.args.store.now.changes c.changes-now.result (world_in c.args.store.now) c.changes-now.ensures c.requires.inputs c.requires.formed c.requires.up_to c.requires.fits c.sides-left.result.0 c.sides-left.result.1 c.in-Join.left c.in-Join.right c.in-Join.pairs c.in-Join.is c.sides-left.ensures in
    IfOk-weaker c.join_whole.result _ _ (joined_counts c.args.shelf.now c.args.expr.now c.sides-left.result.0 c.sides-left.result.1 c.changes-now.result (world_in c.args.store.now) c.in-Join.pairs j c.content-lefts.result c.content-rights.result
    (told_same c.args.shelf.now c.index_sides.new.shelf c.sides-left.result.0 c.content-lefts.result j.first c.index_sides.ensures c.content-lefts.ensures.content c.content-lefts.ensures.wide c.requires.wide j.first_at)
    (told_same c.args.shelf.now c.index_sides.new.shelf c.sides-left.result.1 c.content-rights.result j.second c.index_sides.ensures c.content-rights.ensures.content c.content-rights.ensures.wide c.requires.wide j.second_at)) c.join_whole.ensures.rows

pub returns-in_ok-index_sides-in-Join-clause-wide : goal.returns-in_ok-index_sides-in-Join-clause-wide
returns-in_ok-index_sides-in-Join-clause-wide g c =
    let j = joined c.args.shelf.now c.args.expr.now c.args.inputs c.args.store.now.changes c.changes-now.result (world_in c.args.store.now) c.changes-now.ensures c.requires.inputs c.requires.formed c.requires.up_to c.requires.fits c.sides-left.result.0 c.sides-left.result.1 c.in-Join.left c.in-Join.right c.in-Join.pairs c.in-Join.is c.sides-left.ensures in
    IfOk-weaker c.join_whole.result _ _ (λ rows counts. rows_wide (world_in c.args.store.now) c.args.expr.now rows (joined_counts c.args.shelf.now c.args.expr.now c.sides-left.result.0 c.sides-left.result.1 c.changes-now.result (world_in c.args.store.now) c.in-Join.pairs j c.content-lefts.result c.content-rights.result
    (told_same c.args.shelf.now c.index_sides.new.shelf c.sides-left.result.0 c.content-lefts.result j.first c.index_sides.ensures c.content-lefts.ensures.content c.content-lefts.ensures.wide c.requires.wide j.first_at)
    (told_same c.args.shelf.now c.index_sides.new.shelf c.sides-left.result.1 c.content-rights.result j.second c.index_sides.ensures c.content-rights.ensures.content c.content-rights.ensures.wide c.requires.wide j.second_at) rows counts)) c.join_whole.ensures.rows

pub returns-in_ok-index_sides-in-Join-clause-cost : goal.returns-in_ok-index_sides-in-Join-clause-cost
returns-in_ok-index_sides-in-Join-clause-cost g c =
    let j = joined c.args.shelf.now c.args.expr.now c.args.inputs c.args.store.now.changes c.changes-now.result (world_in c.args.store.now) c.changes-now.ensures c.requires.inputs c.requires.formed c.requires.up_to c.requires.fits c.sides-left.result.0 c.sides-left.result.1 c.in-Join.left c.in-Join.right c.in-Join.pairs c.in-Join.is c.sides-left.ensures in
    joined_cost c.args.shelf.now c.args.expr.now c.sides-left.result.0 c.sides-left.result.1 c.changes-now.result (world_in c.args.store.now) c.in-Join.pairs j c.content-lefts.result c.content-rights.result
    (told_same c.args.shelf.now c.index_sides.new.shelf c.sides-left.result.0 c.content-lefts.result j.first c.index_sides.ensures c.content-lefts.ensures.content c.content-lefts.ensures.wide c.requires.wide j.first_at)
    (told_same c.args.shelf.now c.index_sides.new.shelf c.sides-left.result.1 c.content-rights.result j.second c.index_sides.ensures c.content-rights.ensures.content c.content-rights.ensures.wide c.requires.wide j.second_at) c.args.steps.now c.join_whole.new.steps c.join_whole.ensures.cost

pub returns-in-Scan-clause-counts : goal.returns-in-Scan-clause-counts
returns-in-Scan-clause-counts g c =
    IfOk-weaker c.scan.result _ _ (scan_counts c.args.expr.now (world_in c.args.store.now) c.in-Scan.source c.get.result.now (c.in-Scan.is ∙ ap (Scan c.in-Scan.source) (sym c.get.ensures))) c.scan.ensures.counts

pub returns-in-Scan-clause-wide : goal.returns-in-Scan-clause-wide
returns-in-Scan-clause-wide g c =
    IfOk-weaker c.scan.result _ _ (λ rows counts. rows_wide (world_in c.args.store.now) c.args.expr.now rows (scan_counts c.args.expr.now (world_in c.args.store.now) c.in-Scan.source c.get.result.now (c.in-Scan.is ∙ ap (Scan c.in-Scan.source) (sym c.get.ensures)) rows counts)) c.scan.ensures.counts

pub returns-in-Scan-clause-cost : goal.returns-in-Scan-clause-cost
returns-in-Scan-clause-cost g c =
    scan_steps c.args.expr.now (world_in c.args.store.now) c.in-Scan.source c.get.result.now (c.in-Scan.is ∙ ap (Scan c.in-Scan.source) (sym c.get.ensures)) c.args.steps.now c.scan.new.steps c.scan.ensures.cost

pub unreachable-requires : goal.unreachable-requires
unreachable-requires g c =
    c.requires.own (record { inner = c.in-RangeSel.input; slot = c.in-RangeSel.slot; interval = c.in-RangeSel.interval; is = c.in-RangeSel.is })

pub scan-requires : goal.scan-requires
scan-requires g c = scan_formed c.args.expr.now c.requires.formed c.in-Scan.source c.get.result.now (c.in-Scan.is ∙ ap (Scan c.in-Scan.source) (sym c.get.ensures))
