use Rattle.std.proofs.Common.{◌++◌, sym, ap, ◌∙◌}
use Rattle.std.specs.Prelude.{codes}
use Rattle.std.proofs.lemmas.Result.{on_ok_weaker}
use Rattle.ncq_path.specs.Texts.{path_text}
use Rattle.ncq_signature.specs.SignatureTexts.{led_by, suffix_text, content_text}
use Rattle.ncq_signature.proofs.ShapeTexts.{text_of_shape}
use Rattle.ncq_base.proofs.Written.{front_still, three_written, four_written}
use Rattle.ncq_signature.proofs.text.+shape.Goals as goal

pub push_shape-returns-clause-ok : goal.push_shape-returns-clause-ok
push_shape-returns-clause-ok t c =
    let shape = c.args.shape.now in
    let out = c.args.out.now.items in
    on_ok_weaker c.push_suffix.result
    (λ h.
    four_written out (path_text shape.tag) (led_by (codes "@") (codes "@") c.as_slice.result.now) (content_text shape.content)
    c.write_path.new.out.items c.push_attributes.new.out.items c.push_content.new.out.items
    c.in_ok-write_path.ensures.ok c.in_ok-push_attributes.ensures.ok c.in_ok-push_content.ensures.ok
    (suffix_text shape.suffix) c.push_suffix.new.out.items h
    ∙ (λ i. out ++ (path_text shape.tag ++ led_by (codes "@") (codes "@") (c.as_slice.ensures i) ++ content_text shape.content ++ suffix_text shape.suffix))
    ∙ ap (λ xs. out ++ xs) (sym (text_of_shape shape)))
    c.push_suffix.ensures.ok

pub push_shape-returns-clause-front : goal.push_shape-returns-clause-front
push_shape-returns-clause-front t c =
    front_still c.args.out.now.items (path_text c.args.shape.now.tag ++ led_by (codes "@") (codes "@") c.as_slice.result.now ++ content_text c.args.shape.now.content)
    c.push_content.new.out.items c.push_suffix.new.out.items
    (three_written c.args.out.now.items (path_text c.args.shape.now.tag) (led_by (codes "@") (codes "@") c.as_slice.result.now) (content_text c.args.shape.now.content)
    c.write_path.new.out.items c.push_attributes.new.out.items c.push_content.new.out.items
    c.in_ok-write_path.ensures.ok c.in_ok-push_attributes.ensures.ok c.in_ok-push_content.ensures.ok)
    c.push_suffix.ensures.front
