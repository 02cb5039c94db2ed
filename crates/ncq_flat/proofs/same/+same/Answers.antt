use Rattle.std.proofs.Common.{refl}
use Rattle.ncq_flat.proofs.SameLaws.{text_rest, nodes_all, nodes_more, nodes_none, none_opening, none_attributes, none_children, element_rest}
use Rattle.ncq_flat.proofs.same.+same.Goals as goal

pub behind_lines-returns-in_err-inside : goal.behind_lines-returns-in_err-inside
behind_lines-returns-in_err-inside t c =
    rw c.from_residual.ensures
    (none_opening c.args.element.now c.as_slice-name.result.now c.args.element.now.attributes c.as_slice-name.ensures refl c.args.text.now c.in_err-inside.ensures)

pub behind_lines-returns-in_err-content : goal.behind_lines-returns-in_err-content
behind_lines-returns-in_err-content t c =
    rw c.from_residual-in_err-content.ensures
    (none_attributes c.args.element.now c.as_slice-name.result.now c.as_slice.result.now c.as_slice-name.ensures c.as_slice.ensures c.args.text.now
    c.in_ok-inside.inside.now c.in_ok-inside.ensures c.in_err-content.ensures)

pub behind_lines-returns-in_err-end : goal.behind_lines-returns-in_err-end
behind_lines-returns-in_err-end t c =
    rw c.from_residual-in_err-end.ensures
    (none_children c.args.element.now c.as_slice-name.result.now c.as_slice.result.now c.as_slice-name.ensures c.as_slice.ensures c.args.text.now
    c.in_ok-inside.inside.now c.in_ok-inside.ensures c.in_ok-content.content.now c.in_ok-content.ensures c.in_err-end.ensures)

pub behind_lines-returns : goal.behind_lines-returns
behind_lines-returns t c =
    element_rest c.args.element.now c.as_slice-name.result.now c.as_slice.result.now c.as_slice-name.ensures c.as_slice.ensures c.args.text.now
    c.in_ok-inside.inside.now c.in_ok-inside.ensures c.in_ok-content.content.now c.in_ok-content.ensures
    c.behind_name.result c.in_ok-end.end.now c.in_ok-end.ensures c.behind_name.ensures

pub behind_node-returns-in-Text : goal.behind_node-returns-in-Text
behind_node-returns-in-Text t c = text_rest c.behind_text.result c.args.node.now c.in-Text.said c.as_slice.result.now c.args.text.now c.in-Text.is c.as_slice.ensures c.behind_text.ensures

pub behind_nodes-loop-node-preserved : goal.behind_nodes-loop-node-preserved
behind_nodes-loop-node-preserved t c =
    nodes_more c.args.forest.now c.as_slice-node-items.result.now c.as_slice-node-items.ensures
    c.loop-node.node-index c.args.text.now c.loop-node.rest.now c.loop-node.invariant
    c.node-item.result c.node-item.is c.loop-node-test.true c.in_ok-rest.rest.now c.in_ok-rest.ensures

pub behind_nodes-returns : goal.behind_nodes-returns
behind_nodes-returns t c =
    nodes_all c.args.forest.now c.as_slice-node-items.result.now c.as_slice-node-items.ensures
    c.loop-node.node-index c.args.text.now c.loop-node.rest.now c.loop-node.invariant c.loop-node-test.false

pub behind_nodes-returns-in_err-rest : goal.behind_nodes-returns-in_err-rest
behind_nodes-returns-in_err-rest t c =
    rw c.from_residual.ensures
    (nodes_none c.args.forest.now c.as_slice-node-items.result.now c.as_slice-node-items.ensures
    c.loop-node.node-index c.args.text.now c.loop-node.rest.now c.loop-node.invariant
    c.node-item.result c.node-item.is c.loop-node-test.true c.in_err-rest.ensures)
