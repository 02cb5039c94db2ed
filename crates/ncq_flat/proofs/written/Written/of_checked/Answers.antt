use Rattle.std.proofs.Common.{◌≡◌, List, ℕ, ap, sym, subst, ◌∙◌}
use Rattle.ncq_base.specs.Lines.{lines_in}
use Rattle.ncq_tree.specs.declared.model.Element.{Element}
use Rattle.ncq_tree.specs.declared.model.Node.TheVariants.{Element as element_node}
use Rattle.ncq_pyx.specs.Canonical.{node_lines, is_named}
use Rattle.ncq_tree.specs.Normal.{node_is_normal}
use Rattle.ncq_flat.specs.Flat.{IsCanonical, element_in}
use Rattle.ncq_flat.proofs.FlatLaws.{text_read}
use Rattle.ncq_flat.proofs.CheckedLaws.{checked}
use Rattle.ncq_flat.proofs.written.Written.of_checked.Goals as goal

pub invariant_of-result : goal.invariant_of-result
invariant_of-result c =
    let f = checked (lines_in c.args.text.now) c.requires.checked in
    let r = text_read c.args.text.now f.0 c.requires.whole f.1.0 f.1.1.0 f.1.1.1 in
    let same : c.in_ok-lines.lines.items ≡ c.args.text.now = c.in_ok-lines.ensures.items in
    subst (λ (t : List ℕ). IsCanonical t) (sym same) r.1

pub returns : goal.returns
returns c =
    let f = checked (lines_in c.args.text.now) c.requires.checked in
    let r = text_read c.args.text.now f.0 c.requires.whole f.1.0 f.1.1.0 f.1.1.1 in
    let same : c.in_ok-lines.lines.items ≡ c.args.text.now = c.in_ok-lines.ensures.items in
    let is : f.0 ≡ element_in c.in_ok-lines.lines.items = sym (ap element_in same ∙ r.0) in
    record {
      lines = f.1.0 ∙ ap (λ (x : Element). node_lines (element_node x)) is;
      normal = ap (λ (x : Element). node_is_normal (element_node x)) (sym is) ∙ f.1.1.0;
      named = ap (λ (x : Element). is_named (element_node x)) (sym is) ∙ f.1.1.1;
    }
