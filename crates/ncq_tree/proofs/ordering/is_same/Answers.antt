use Rattle.std.proofs.Common.{sym, ◌∙◌}
use Rattle.ncq_tree.proofs.Exact.{nodes_decided}
use Rattle.ncq_tree.proofs.ordering.is_same.Goals as goal

pub returns : goal.returns
returns c =
    let d = nodes_decided c.args.a.now c.args.b.now in
    (λ h. d.0 (sym c.eq.ensures ∙ h), λ h. c.eq.ensures ∙ d.1 h)
