use Rattle.std.specs.Prelude.{[]}
use Rattle.std.proofs.Common.{◌≡◌, sym, ap, ◌∙◌}
use Rattle.ncq_shelf.specs.Shown.{shown}
use Rattle.ncq_plan.specs.declared.expr.Expr.{Expr}
use Rattle.ncq_plan.specs.declared.expr.Expr.TheVariants.{EqSel, RangeSel, Join}
use Rattle.ncq_shelf.proofs.Arms.{one_of_equal, one_of_range, some_of_join, file_of_one, inner_of_equal, inner_of_range, file_of_left, file_of_right, sides_of_join}
use Rattle.ncq_shelf.proofs.shared.over_files.Goals as goal

pub one_of-requires : goal.one_of-requires
one_of-requires c = one_of_equal [] (shown [] c.args.files.now.entries) c.args.expr.now c.in-EqSel.input c.in-EqSel.slot c.in-EqSel.constant c.in-EqSel.is c.args.inputs c.requires.inputs

pub one_of-requires-in-RangeSel : goal.one_of-requires-in-RangeSel
one_of-requires-in-RangeSel c = one_of_range [] (shown [] c.args.files.now.entries) c.args.expr.now c.in-RangeSel.input c.in-RangeSel.slot c.in-RangeSel.interval c.in-RangeSel.is c.args.inputs c.requires.inputs

pub expr_of-requires : goal.expr_of-requires
expr_of-requires c = record { there = file_of_one [] c.args.files.now.entries c.requires.one c.args.expr.now c.args.inputs c.requires.inputs c.one_of.result c.one_of.ensures }

pub expr_of-requires-in-RangeSel : goal.expr_of-requires-in-RangeSel
expr_of-requires-in-RangeSel c = record { there = file_of_one [] c.args.files.now.entries c.requires.one c.args.expr.now c.args.inputs c.requires.inputs c.one_of-in-RangeSel.result c.one_of-in-RangeSel.ensures }

pub sides_of-left-requires : goal.sides_of-left-requires
sides_of-left-requires c = some_of_join [] c.args.files.now.entries c.requires.one c.args.expr.now c.args.inputs c.requires.inputs c.in-Join.left c.in-Join.right c.in-Join.pairs c.in-Join.is

pub expr_of-requires-in-Join : goal.expr_of-requires-in-Join
expr_of-requires-in-Join c = record { there = file_of_left [] c.args.files.now.entries c.requires.one c.args.expr.now c.args.inputs c.requires.inputs c.in-Join.left c.in-Join.right c.in-Join.pairs c.in-Join.is c.sides_of-left.result.0 c.sides_of-left.result.1 c.sides_of-left.ensures }

pub expr_of-requires-in-Join-2 : goal.expr_of-requires-in-Join-2
expr_of-requires-in-Join-2 c = record { there = file_of_right [] c.args.files.now.entries c.requires.one c.args.expr.now c.args.inputs c.requires.inputs c.in-Join.left c.in-Join.right c.in-Join.pairs c.in-Join.is c.sides_of-left.result.0 c.sides_of-left.result.1 c.sides_of-left.ensures }

pub returns-in_ok-copy-in-EqSel : goal.returns-in_ok-copy-in-EqSel
returns-in_ok-copy-in-EqSel c =
    let has = file_of_one [] c.args.files.now.entries c.requires.one c.args.expr.now c.args.inputs c.requires.inputs c.one_of.result c.one_of.ensures in
    (λ i. EqSel (c.in_ok-expr_of-in-EqSel.ensures has.file has.at i) c.in-EqSel.slot (c.in_ok-copy-in-EqSel.ensures i))
    ∙ sym (inner_of_equal [] c.args.files.now.entries c.requires.one c.args.expr.now c.args.inputs c.requires.inputs c.one_of.result c.one_of.ensures c.in-EqSel.input c.in-EqSel.slot c.in-EqSel.constant c.in-EqSel.is has.file has.at)

pub returns-in_ok-expr_of-in-RangeSel : goal.returns-in_ok-expr_of-in-RangeSel
returns-in_ok-expr_of-in-RangeSel c =
    let has = file_of_one [] c.args.files.now.entries c.requires.one c.args.expr.now c.args.inputs c.requires.inputs c.one_of-in-RangeSel.result c.one_of-in-RangeSel.ensures in
    (λ i. RangeSel (c.in_ok-expr_of-in-RangeSel.ensures has.file has.at i) c.in-RangeSel.slot c.in-RangeSel.interval)
    ∙ sym (inner_of_range [] c.args.files.now.entries c.requires.one c.args.expr.now c.args.inputs c.requires.inputs c.one_of-in-RangeSel.result c.one_of-in-RangeSel.ensures c.in-RangeSel.input c.in-RangeSel.slot c.in-RangeSel.interval c.in-RangeSel.is has.file has.at)

pub returns-in_ok-copy-in-Join : goal.returns-in_ok-copy-in-Join
returns-in_ok-copy-in-Join c =
    let left = file_of_left [] c.args.files.now.entries c.requires.one c.args.expr.now c.args.inputs c.requires.inputs c.in-Join.left c.in-Join.right c.in-Join.pairs c.in-Join.is c.sides_of-left.result.0 c.sides_of-left.result.1 c.sides_of-left.ensures in
    let right = file_of_right [] c.args.files.now.entries c.requires.one c.args.expr.now c.args.inputs c.requires.inputs c.in-Join.left c.in-Join.right c.in-Join.pairs c.in-Join.is c.sides_of-left.result.0 c.sides_of-left.result.1 c.sides_of-left.ensures in
    (λ i. Join (c.in_ok-expr_of-in-Join.ensures left.file left.at i) (c.in_ok-expr_of-in-Join-2.ensures right.file right.at i) (c.in_ok-copy-in-Join.ensures i))
    ∙ sym (sides_of_join [] c.args.files.now.entries c.requires.one c.args.expr.now c.args.inputs c.requires.inputs c.in-Join.left c.in-Join.right c.in-Join.pairs c.in-Join.is c.sides_of-left.result.0 c.sides_of-left.result.1 c.sides_of-left.ensures left.file right.file left.at right.at)
