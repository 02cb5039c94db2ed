use Rattle.std.proofs.Common.{◌≡◌, ◌++◌, List, ℕ, ap, ◌∙◌}
use Rattle.ncq_tree.specs.declared.model.Node.TheVariants.{Element as element_node}
use Rattle.ncq_pyx.specs.Canonical.{node_lines, bytes_of_lines}
use Rattle.ncq_flat.proofs.FlatLaws.{text_canonical}
use Rattle.ncq_flat.proofs.written.Written.new.Goals as goal

pub invariant_of-result : goal.invariant_of-result
invariant_of-result c =
    let e = c.args.element.now in
    let w : c.write_element.new.out.items ≡ bytes_of_lines (node_lines (element_node e)) = c.in_ok-write_element.ensures.ok
    ∙ ap (λ (front : List ℕ). front ++ bytes_of_lines (node_lines (element_node e))) c.new-lines.ensures.items in
    (text_canonical c.write_element.new.out.items e w c.requires.normal c.requires.named).1

pub returns : goal.returns
returns c =
    let e = c.args.element.now in
    let w : c.write_element.new.out.items ≡ bytes_of_lines (node_lines (element_node e)) = c.in_ok-write_element.ensures.ok
    ∙ ap (λ (front : List ℕ). front ++ bytes_of_lines (node_lines (element_node e))) c.new-lines.ensures.items in
    (text_canonical c.write_element.new.out.items e w c.requires.normal c.requires.named).0
