use Rattle.std.specs.Prelude.{[]}
use Rattle.ncq_readers.specs.Readings.Reading.{equal, range, joined}
use Rattle.ncq_shelf.specs.Shown.{shown}
use Rattle.ncq_shelf.specs.Enrolled.{is_at, is_at_either}
use Rattle.ncq_shelf.proofs.Turns.{struck, struck_nowhere, strikes_both, has_struck}
use Rattle.ncq_shelf.proofs.Arms.{scan_reads_nothing, one_of_equal, one_of_range, some_of_join, file_of_one, inner_of_equal, inner_of_range, reads_of_equal, reads_of_range, file_of_left, file_of_right, reads_of_join}
use Rattle.ncq_shelf.proofs.enroll.strike.Goals as goal

pub one_of-requires : goal.one_of-requires
one_of-requires c = one_of_equal [] (shown [] c.args.files.now.entries) c.args.expr.now c.in-EqSel.input c.in-EqSel.slot c.in-EqSel.constant c.in-EqSel.is c.args.inputs c.requires.inputs

pub strike_equal-requires-clause-there : goal.strike_equal-requires-clause-there
strike_equal-requires-clause-there c = file_of_one [] c.args.files.now.entries c.requires.one c.args.expr.now c.args.inputs c.requires.inputs c.one_of.result c.one_of.ensures

pub strike_equal-requires-clause-known : goal.strike_equal-requires-clause-known
strike_equal-requires-clause-known c = λ file at.
    c.requires.known c.one_of.result file (equal c.in-EqSel.slot c.in-EqSel.constant) at
    (inner_of_equal [] c.args.files.now.entries c.requires.one c.args.expr.now c.args.inputs c.requires.inputs c.one_of.result c.one_of.ensures c.in-EqSel.input c.in-EqSel.slot c.in-EqSel.constant c.in-EqSel.is file at)

pub one_of-requires-in-RangeSel : goal.one_of-requires-in-RangeSel
one_of-requires-in-RangeSel c = one_of_range [] (shown [] c.args.files.now.entries) c.args.expr.now c.in-RangeSel.input c.in-RangeSel.slot c.in-RangeSel.interval c.in-RangeSel.is c.args.inputs c.requires.inputs

pub strike_range-requires-clause-there : goal.strike_range-requires-clause-there
strike_range-requires-clause-there c = file_of_one [] c.args.files.now.entries c.requires.one c.args.expr.now c.args.inputs c.requires.inputs c.one_of-in-RangeSel.result c.one_of-in-RangeSel.ensures

pub strike_range-requires-clause-known : goal.strike_range-requires-clause-known
strike_range-requires-clause-known c = λ file at.
    c.requires.known c.one_of-in-RangeSel.result file (range c.in-RangeSel.slot c.in-RangeSel.interval) at
    (inner_of_range [] c.args.files.now.entries c.requires.one c.args.expr.now c.args.inputs c.requires.inputs c.one_of-in-RangeSel.result c.one_of-in-RangeSel.ensures c.in-RangeSel.input c.in-RangeSel.slot c.in-RangeSel.interval c.in-RangeSel.is file at)

pub sides_of-left-requires : goal.sides_of-left-requires
sides_of-left-requires c = some_of_join [] c.args.files.now.entries c.requires.one c.args.expr.now c.args.inputs c.requires.inputs c.in-Join.left c.in-Join.right c.in-Join.pairs c.in-Join.is

pub strike_join-requires : goal.strike_join-requires
strike_join-requires c =
    file_of_left [] c.args.files.now.entries c.requires.one c.args.expr.now c.args.inputs c.requires.inputs c.in-Join.left c.in-Join.right c.in-Join.pairs c.in-Join.is c.sides_of-left.result.0 c.sides_of-left.result.1 c.sides_of-left.ensures

pub strike_join-requires-in-Join : goal.strike_join-requires-in-Join
strike_join-requires-in-Join c =
    has_struck c.args.files.now.entries c.strike_join.new.files.entries c.sides_of-left.result.1
    (file_of_right [] c.args.files.now.entries c.requires.one c.args.expr.now c.args.inputs c.requires.inputs c.in-Join.left c.in-Join.right c.in-Join.pairs c.in-Join.is c.sides_of-left.result.0 c.sides_of-left.result.1 c.sides_of-left.ensures)
    (is_at c.sides_of-left.result.0 joined) c.args.number c.strike_join.ensures.struck

pub returns-in-Scan : goal.returns-in-Scan
returns-in-Scan c = struck_nowhere c.args.files.now.entries c.args.expr.now c.args.number (scan_reads_nothing [] c.args.expr.now c.in-Scan.source c.in-Scan.shape c.in-Scan.is)

pub returns-in-EqSel : goal.returns-in-EqSel
returns-in-EqSel c =
    struck c.args.files.now.entries c.strike_equal.new.files.entries (is_at c.one_of.result (equal c.in-EqSel.slot c.in-EqSel.constant)) c.args.expr.now c.args.number
    (reads_of_equal [] c.args.files.now.entries c.requires.one c.args.expr.now c.args.inputs c.requires.inputs c.one_of.result c.one_of.ensures c.in-EqSel.input c.in-EqSel.slot c.in-EqSel.constant c.in-EqSel.is)
    c.strike_equal.ensures

pub returns-in-RangeSel : goal.returns-in-RangeSel
returns-in-RangeSel c =
    struck c.args.files.now.entries c.strike_range.new.files.entries (is_at c.one_of-in-RangeSel.result (range c.in-RangeSel.slot c.in-RangeSel.interval)) c.args.expr.now c.args.number
    (reads_of_range [] c.args.files.now.entries c.requires.one c.args.expr.now c.args.inputs c.requires.inputs c.one_of-in-RangeSel.result c.one_of-in-RangeSel.ensures c.in-RangeSel.input c.in-RangeSel.slot c.in-RangeSel.interval c.in-RangeSel.is)
    c.strike_range.ensures

pub returns-in-Join : goal.returns-in-Join
returns-in-Join c =
    struck c.args.files.now.entries c.strike_join-in-Join.new.files.entries (is_at_either c.sides_of-left.result.0 c.sides_of-left.result.1 joined) c.args.expr.now c.args.number
    (reads_of_join [] c.args.files.now.entries c.requires.one c.args.expr.now c.args.inputs c.requires.inputs c.in-Join.left c.in-Join.right c.in-Join.pairs c.in-Join.is c.sides_of-left.result.0 c.sides_of-left.result.1 c.sides_of-left.ensures)
    (strikes_both c.args.files.now.entries c.strike_join.new.files.entries c.strike_join-in-Join.new.files.entries c.sides_of-left.result.0 c.sides_of-left.result.1 joined c.args.number c.strike_join.ensures.struck c.strike_join-in-Join.ensures.struck)
