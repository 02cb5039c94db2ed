use Rattle.std.proofs.lemmas.Result.{on_ok_weaker}
use Rattle.ncq_pyx.proofs.LineLaws.{text_written, element_written}
use Rattle.ncq_pyx.proofs.writing.+writing.Goals as goal

pub write_node-returns-in-Text-clause-ok : goal.write_node-returns-in-Text-clause-ok
write_node-returns-in-Text-clause-ok t c =
    on_ok_weaker c.write_text.result
    (λ h. text_written c.args.node.now c.in-Text.text c.as_slice.result.now c.args.out.now.items c.write_text.new.out.items c.in-Text.is c.as_slice.ensures h)
    c.write_text.ensures.ok

pub write_node-returns-in-Element-clause-ok : goal.write_node-returns-in-Element-clause-ok
write_node-returns-in-Element-clause-ok t c = rw c.in-Element.is c.write_lines.ensures.ok

pub write_lines-returns-clause-ok : goal.write_lines-returns-clause-ok
write_lines-returns-clause-ok t c =
    on_ok_weaker c.write_name-2.result
    (λ h. element_written c.args.element.now c.as_slice.result.now c.as_slice-3.result.now c.as_slice-2.result.now
    c.args.out.now.items c.write_name.new.out.items c.write_attributes.new.out.items c.write_nodes.new.out.items c.write_name-2.new.out.items
    c.as_slice.ensures c.as_slice-3.ensures c.as_slice-2.ensures
    c.in_ok-write_name.ensures.ok c.in_ok-write_attributes.ensures.ok c.in_ok-write_nodes.ensures.ok h)
    c.write_name-2.ensures.ok
