use Rattle.std.proofs.Common.{◌≡◌, IfOk, length, ap, refl, subst, sym, ◌∙◌}
use Rattle.ncq_base.specs.Lines.{lines_in}
use Rattle.ncq_tree.specs.declared.model.Element.{Element}
use Rattle.ncq_flat.proofs.FlatLaws.{flat_lines, flat_normal, flat_named}
use Rattle.ncq_flat.proofs.ItemLaws.{put_alone}
use Rattle.ncq_flat.proofs.written.Written.element.Goals as goal

pub returns-in-Ok : goal.returns-in-Ok
returns-in-Ok c =
    let e = c.args.self.now in
    let text = flat_lines _ e c.self.invariant c.self.view_is in
    let one = put_alone (length c.as_slice-text.result.now) c.self.inside.lines.items c.in_ok-lines.lines c.in-Ok.items e text
    (flat_normal _ e c.self.invariant c.self.view_is) (flat_named _ e c.self.invariant c.self.view_is)
    (c.in_ok-lines.ensures ∙ ap lines_in c.as_slice-text.ensures.value) (ap length c.as_slice-text.ensures.value) c.in-Ok.ensures.block in
    subst (λ r. IfOk r (λ (x : Element). x ≡ e)) (sym (c.first_put.ensures e one)) refl
