use Rattle.std.proofs.Common.{sym}
use Rattle.ncq_flat.proofs.SameLaws.{none_space, none_value, attribute_rest}
use Rattle.ncq_flat.proofs.same.behind_attribute.Goals as goal

pub returns-in_err-value : goal.returns-in_err-value
returns-in_err-value c =
    rw c.from_residual-in_err-value.ensures
    (none_space c.args.attribute.now c.as_slice-name.result.now c.as_slice-name.ensures (sym c.if-not-is_pyx_name.ensures)
    c.args.text.now c.in_ok-line.line.now c.in_ok-space.space.now c.in_ok-line.ensures c.in_ok-space.ensures c.in_err-value.ensures)

pub returns-in_err-end : goal.returns-in_err-end
returns-in_err-end c =
    rw c.from_residual-in_err-end.ensures
    (none_value c.args.attribute.now c.as_slice-name.result.now c.as_slice-name.ensures (sym c.if-not-is_pyx_name.ensures)
    c.args.text.now c.in_ok-line.line.now c.in_ok-space.space.now c.in_ok-line.ensures c.in_ok-space.ensures
    c.as_slice.result.now c.in_ok-value.value.now c.as_slice.ensures c.in_ok-value.ensures c.in_err-end.ensures)

pub returns : goal.returns
returns c =
    attribute_rest c.args.attribute.now c.as_slice-name.result.now c.as_slice-name.ensures (sym c.if-not-is_pyx_name.ensures)
    c.args.text.now c.in_ok-line.line.now c.in_ok-space.space.now c.in_ok-line.ensures c.in_ok-space.ensures
    c.as_slice.result.now c.in_ok-value.value.now c.as_slice.ensures c.in_ok-value.ensures
    c.behind_byte-3.result c.in_ok-end.end.now c.in_ok-end.ensures c.behind_byte-3.ensures
