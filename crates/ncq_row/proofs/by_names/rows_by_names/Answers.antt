use Rattle.std.proofs.Common.{◌≡◌, Bool, true, false, [], sym, ap, ◌∙◌, subst, if◌then◌else◌}
use Rattle.std.specs.Prelude.{not, IfOk, IfSome}
use Rattle.std.specs.Str.{bytes_eq}
use Rattle.ncq_tree.specs.declared.model.Element.{Element}
use Rattle.ncq_row.specs.Embeddings.{Rows, rows_at}
use Rattle.ncq_row.proofs.CallerLemmas.{rows_of_other, rows_of_named}
use Rattle.ncq_row.proofs.by_names.rows_by_names.Goals as goal

is_true : (b : Bool) → not b ≡ false → b ≡ true
is_true true e = sym (sym (λ i. true))
is_true false e = cc

pub returns-then-ne : goal.returns-then-ne
returns-then-ne c =
    let name = c.name.ensures ∙ ap (λ (e : Element). e.name) c.get.ensures in
    let other : not (bytes_eq c.args.element.now.name c.in-Tag.name) ≡ true =
    sym (c.ne.ensures ∙ (λ i. not (bytes_eq (name i) (c.as_slice.ensures i)))) ∙ c.if-ne.true in
    c.new.ensures ∙ sym (rows_of_other c.args.shape.now c.in-Tag.name c.args.element.now c.in-Tag.is other)

pub returns-in-Some : goal.returns-in-Some
returns-in-Some c =
    let s = c.args.shape.now in
    let e = c.args.element.now in
    let name = c.name.ensures ∙ ap (λ (x : Element). x.name) c.get.ensures in
    let same : bytes_eq e.name c.in-Tag.name ≡ true =
    is_true _ (sym (c.ne.ensures ∙ (λ i. not (bytes_eq (name i) (c.as_slice.ensures i)))) ∙ c.if-ne.false) in
    subst (λ (all : Rows). IfOk c.found_at.result (λ found. IfSome found (λ (rows : Rows). rows ≡ all)))
    (sym (c.in-Some.ensures e) ∙ (λ i. if sym same i then rows_at s e else []) ∙ sym (rows_of_named s c.in-Tag.name e c.in-Tag.is))
    c.found_at.ensures
