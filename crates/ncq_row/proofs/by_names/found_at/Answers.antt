use Rattle.std.proofs.Common.{◌≡◌, [], map, ap, sym, ◌∙◌, subst}
use Rattle.std.specs.Prelude.{IfOk, IfSome}
use Rattle.ncq_tree.specs.declared.model.Element.{Element}
use Rattle.ncq_flat.specs.Insides.{inside_of}
use Rattle.ncq_row.specs.declared.shape.Shape.{Shape}
use Rattle.ncq_row.specs.declared.shape.ShapeSuffix.{ShapeSuffix}
use Rattle.ncq_row.specs.Embeddings.{Rows, one_of_each, paired, rows_from, suffix_rows}
use Rattle.ncq_row.proofs.PairedLaws.{paired_unit}
use Rattle.ncq_row.proofs.by_names.found_at.Goals as goal

pub returns-in-Plain : goal.returns-in-Plain
returns-in-Plain c =
    let e = c.args.element.now in
    let rows : Rows = one_of_each (map (λ (part : Shape). rows_from part e) c.args.parts.now) in
    subst (λ (all : Rows). IfOk c.found_in_parts.result (λ found. IfSome found (λ (rs : Rows). rs ≡ all)))
    (sym (ap (λ (s : ShapeSuffix). paired rows (suffix_rows s e)) c.in-Plain.is ∙ paired_unit rows))
    (c.found_in_parts.ensures e [] (c.inside.ensures ∙ ap (λ (x : Element). inside_of x []) c.get.ensures))
