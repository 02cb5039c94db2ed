use Rattle.ncq_count.proofs.TellLaws.{key_equal, key_range, equal_has_one, range_has_one, tells_alone, alone_if_no_selection}
use Rattle.std.proofs.Common.{refl}
use Rattle.ncq_count.proofs.key.key_of.Goals as goal

pub returns-in-EqSel-One : goal.returns-in-EqSel-One
returns-in-EqSel-One c = λ files stands are. key_equal files c.args.expr.now c.args.inputs are c.in-EqSel-One.input-0 c.in-EqSel-One.slot c.in-EqSel-One.constant-0 c.in-EqSel-One.input c.in-EqSel-One.is-0 c.in-EqSel-One.is-1

pub returns-in-RangeSel-One : goal.returns-in-RangeSel-One
returns-in-RangeSel-One c = λ files stands are. key_range files c.args.expr.now c.args.inputs are c.in-RangeSel-One.input-0 c.in-RangeSel-One.slot c.in-RangeSel-One.interval-0 c.in-RangeSel-One.input c.in-RangeSel-One.is-0 c.in-RangeSel-One.is-1

pub returns-in_default : goal.returns-in_default
returns-in_default c = λ files stands are. absurd (equal_has_one files c.args.expr.now c.args.inputs are c.in_default.field-0-0 c.in_default.field-1-0 c.in_default.field-2-0 c.in_default.is-0 c.in_default.not-One-1)

pub returns-in_default-2 : goal.returns-in_default-2
returns-in_default-2 c = λ files stands are. absurd (range_has_one files c.args.expr.now c.args.inputs are c.in_default.field-0-0 c.in_default.field-1-0 c.in_default.field-2-0 c.in_default.is-0 c.in_default.not-One-1)

pub returns-in_default-3 : goal.returns-in_default-3
returns-in_default-3 c = λ files stands are. tells_alone files c.args.expr.now c.args.number _ stands refl (alone_if_no_selection c.args.expr.now c.in_default.not-EqSel-0 c.in_default.not-RangeSel-0)
