use Rattle.std.proofs.Common.{sym, ap, ◌∙◌}
use Rattle.ncq_row.specs.Shown.{shown_nodes}
use Rattle.ncq_row.proofs.NodesLaws.{elements_alone}
use Rattle.ncq_row.proofs.nodes.shows_element.Goals as goal

pub returns-in-Element : goal.returns-in-Element
returns-in-Element c =
    let d = elements_alone c.args.element.now c.in-Element.other.now in
    let shown = ap shown_nodes c.in-Element.is in
    (λ h. d.0 (c.is_same.ensures.0 h) ∙ sym shown, λ h. c.is_same.ensures.1 (d.1 (h ∙ shown)))
