use Rattle.std.proofs.Common.{◌≡◌, true, sym, ◌∙◌}
use Rattle.ncq_tree.specs.Normal.{node_is_normal}
use Rattle.ncq_tree.specs.declared.model.Node.TheVariants.{Element as element_node}
use Rattle.ncq_tree.proofs.NormalAgain.{stays, whole_normal_stays}
use Rattle.ncq_tree.proofs.normalize.normal_element.Goals as goal

pub returns-then-is_normal_element-clause-node : goal.returns-then-is_normal_element-clause-node
returns-then-is_normal_element-clause-node c =
    let normal : node_is_normal (element_node c.args.element) ≡ true = sym c.is_normal_element.ensures ∙ c.if-is_normal_element.true in
    sym (stays (element_node c.args.element) normal)

pub returns-then-is_normal_element-clause-whole : goal.returns-then-is_normal_element-clause-whole
returns-then-is_normal_element-clause-whole c =
    let normal : node_is_normal (element_node c.args.element) ≡ true = sym c.is_normal_element.ensures ∙ c.if-is_normal_element.true in
    sym (whole_normal_stays c.args.element normal)
