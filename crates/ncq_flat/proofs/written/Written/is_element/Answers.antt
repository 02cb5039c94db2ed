use Rattle.std.proofs.Common.{ap, sym, ◌∙◌}
use Rattle.ncq_tree.specs.declared.model.Node.TheVariants.{Element as element_node}
use Rattle.ncq_tree.specs.declared.model.Element.{Element}
use Rattle.ncq_tree.specs.Normal.{node_is_normal}
use Rattle.ncq_flat.proofs.SameLaws.{same_element}
use Rattle.ncq_flat.proofs.written.Written.is_element.Goals as goal

pub returns-then-has_lines : goal.returns-then-has_lines
returns-then-has_lines c =
    let lines = c.lines.ensures in (
      λ h. same_element c.args.element.now c.args.self.now c.lines.result.now lines.lines lines.normal lines.named (c.has_lines.ensures.0 c.if-has_lines.true) (sym c.is_normal_element.ensures ∙ h),
      λ is. c.is_normal_element.ensures ∙ ap (λ (x : Element). node_is_normal (element_node x)) is ∙ lines.normal,
    )
