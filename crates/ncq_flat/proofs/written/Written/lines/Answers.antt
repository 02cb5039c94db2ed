use Rattle.std.proofs.Common.{ap, sym, ◌∙◌}
use Rattle.ncq_tree.specs.declared.model.Element.{Element}
use Rattle.ncq_tree.specs.declared.model.Node.TheVariants.{Element as element_node}
use Rattle.ncq_tree.proofs.NormalAgain.{whole_normal_stays}
use Rattle.ncq_pyx.specs.Canonical.{node_lines, bytes_of_lines}
use Rattle.ncq_flat.proofs.FlatLaws.{flat_lines, flat_normal}
use Rattle.ncq_flat.proofs.written.Written.lines.Goals as goal

pub returns-clause-written : goal.returns-clause-written
returns-clause-written c =
    let e = c.args.self.now in
    c.as_slice.ensures.value ∙ flat_lines _ e c.self.invariant c.self.view_is
    ∙ ap (λ (x : Element). bytes_of_lines (node_lines (element_node x)))
    (sym (whole_normal_stays e (flat_normal _ e c.self.invariant c.self.view_is)))
