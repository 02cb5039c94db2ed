use Rattle.std.specs.Prelude.{[]}
use Rattle.std.proofs.Common.{sym, ap, ◌∙◌}
use Rattle.ncq_readers.specs.Readings.Reading.{equal, range, joined}
use Rattle.ncq_plan.specs.declared.expr.Expr.TheVariants.{EqSel}
use Rattle.ncq_shelf.specs.Shown.{shown}
use Rattle.ncq_shelf.specs.Enrolled.{is_at, is_at_either}
use Rattle.ncq_shelf.proofs.Turns.{ok_more, any_err, enrolled, enrolled_nowhere, alike_itself}
use Rattle.ncq_shelf.proofs.Arms.{scan_reads_nothing, one_of_equal, one_of_range, some_of_join, file_of_one, inner_of_equal, inner_of_range, reads_of_equal, reads_of_range, file_of_left, file_of_right, reads_of_join}
use Rattle.ncq_shelf.proofs.enroll.enroll.Goals as goal

pub returns-in-Scan-clause-ok : goal.returns-in-Scan-clause-ok
returns-in-Scan-clause-ok c = enrolled_nowhere c.args.files.now.entries c.args.expr.now c.args.number (scan_reads_nothing [] c.args.expr.now c.in-Scan.source c.in-Scan.shape c.in-Scan.is)

pub returns-in-Scan-clause-err : goal.returns-in-Scan-clause-err
returns-in-Scan-clause-err c = tt

pub returns-in_err-copy-in-EqSel-clause-err : goal.returns-in_err-copy-in-EqSel-clause-err
returns-in_err-copy-in-EqSel-clause-err c = any_err c.from_residual.result (alike_itself c.args.files.now.entries)

pub one_of-requires : goal.one_of-requires
one_of-requires c = one_of_equal [] (shown [] c.args.files.now.entries) c.args.expr.now c.in-EqSel.input c.in-EqSel.slot c.in-EqSel.constant c.in-EqSel.is c.args.inputs c.requires.inputs

pub enroll_equal-requires-clause-there : goal.enroll_equal-requires-clause-there
enroll_equal-requires-clause-there c = file_of_one [] c.args.files.now.entries c.requires.one c.args.expr.now c.args.inputs c.requires.inputs c.one_of.result c.one_of.ensures

pub enroll_equal-requires-clause-unread : goal.enroll_equal-requires-clause-unread
enroll_equal-requires-clause-unread c = λ file n at.
    c.requires.unread.equals c.one_of.result file c.in-EqSel.slot c.in_ok-copy-in-EqSel.copy n at
    (inner_of_equal [] c.args.files.now.entries c.requires.one c.args.expr.now c.args.inputs c.requires.inputs c.one_of.result c.one_of.ensures c.in-EqSel.input c.in-EqSel.slot c.in_ok-copy-in-EqSel.copy
    (c.in-EqSel.is ∙ ap (EqSel c.in-EqSel.input c.in-EqSel.slot) (sym c.in_ok-copy-in-EqSel.ensures)) file at)

pub one_of-requires-in-RangeSel : goal.one_of-requires-in-RangeSel
one_of-requires-in-RangeSel c = one_of_range [] (shown [] c.args.files.now.entries) c.args.expr.now c.in-RangeSel.input c.in-RangeSel.slot c.in-RangeSel.interval c.in-RangeSel.is c.args.inputs c.requires.inputs

pub enroll_range-requires-clause-there : goal.enroll_range-requires-clause-there
enroll_range-requires-clause-there c = file_of_one [] c.args.files.now.entries c.requires.one c.args.expr.now c.args.inputs c.requires.inputs c.one_of-in-RangeSel.result c.one_of-in-RangeSel.ensures

pub enroll_range-requires-clause-unread : goal.enroll_range-requires-clause-unread
enroll_range-requires-clause-unread c = λ file n at.
    c.requires.unread.ranges c.one_of-in-RangeSel.result file c.in-RangeSel.slot c.in-RangeSel.interval n at
    (inner_of_range [] c.args.files.now.entries c.requires.one c.args.expr.now c.args.inputs c.requires.inputs c.one_of-in-RangeSel.result c.one_of-in-RangeSel.ensures c.in-RangeSel.input c.in-RangeSel.slot c.in-RangeSel.interval c.in-RangeSel.is file at)

pub sides_of-left-requires : goal.sides_of-left-requires
sides_of-left-requires c = some_of_join [] c.args.files.now.entries c.requires.one c.args.expr.now c.args.inputs c.requires.inputs c.in-Join.left c.in-Join.right c.in-Join.pairs c.in-Join.is

pub enroll_sides-requires-clause-left : goal.enroll_sides-requires-clause-left
enroll_sides-requires-clause-left c =
    file_of_left [] c.args.files.now.entries c.requires.one c.args.expr.now c.args.inputs c.requires.inputs c.in-Join.left c.in-Join.right c.in-Join.pairs c.in-Join.is c.sides_of-left.result.0 c.sides_of-left.result.1 c.sides_of-left.ensures

pub enroll_sides-requires-clause-right : goal.enroll_sides-requires-clause-right
enroll_sides-requires-clause-right c =
    file_of_right [] c.args.files.now.entries c.requires.one c.args.expr.now c.args.inputs c.requires.inputs c.in-Join.left c.in-Join.right c.in-Join.pairs c.in-Join.is c.sides_of-left.result.0 c.sides_of-left.result.1 c.sides_of-left.ensures

pub returns-in_ok-copy-in-EqSel-clause-ok : goal.returns-in_ok-copy-in-EqSel-clause-ok
returns-in_ok-copy-in-EqSel-clause-ok c =
    ok_more c.enroll_equal.result
    (enrolled c.args.files.now.entries c.enroll_equal.new.files.entries (is_at c.one_of.result (equal c.in-EqSel.slot c.in_ok-copy-in-EqSel.copy)) c.args.expr.now c.args.number
    (reads_of_equal [] c.args.files.now.entries c.requires.one c.args.expr.now c.args.inputs c.requires.inputs c.one_of.result c.one_of.ensures c.in-EqSel.input c.in-EqSel.slot c.in_ok-copy-in-EqSel.copy
    (c.in-EqSel.is ∙ ap (EqSel c.in-EqSel.input c.in-EqSel.slot) (sym c.in_ok-copy-in-EqSel.ensures))))
    c.enroll_equal.ensures.ok

pub returns-in-RangeSel-clause-ok : goal.returns-in-RangeSel-clause-ok
returns-in-RangeSel-clause-ok c =
    ok_more c.enroll_range.result
    (enrolled c.args.files.now.entries c.enroll_range.new.files.entries (is_at c.one_of-in-RangeSel.result (range c.in-RangeSel.slot c.in-RangeSel.interval)) c.args.expr.now c.args.number
    (reads_of_range [] c.args.files.now.entries c.requires.one c.args.expr.now c.args.inputs c.requires.inputs c.one_of-in-RangeSel.result c.one_of-in-RangeSel.ensures c.in-RangeSel.input c.in-RangeSel.slot c.in-RangeSel.interval c.in-RangeSel.is))
    c.enroll_range.ensures.ok

pub returns-in-Join-clause-ok : goal.returns-in-Join-clause-ok
returns-in-Join-clause-ok c =
    ok_more c.enroll_sides.result
    (enrolled c.args.files.now.entries c.enroll_sides.new.files.entries (is_at_either c.sides_of-left.result.0 c.sides_of-left.result.1 joined) c.args.expr.now c.args.number
    (reads_of_join [] c.args.files.now.entries c.requires.one c.args.expr.now c.args.inputs c.requires.inputs c.in-Join.left c.in-Join.right c.in-Join.pairs c.in-Join.is c.sides_of-left.result.0 c.sides_of-left.result.1 c.sides_of-left.ensures))
    c.enroll_sides.ensures.ok
