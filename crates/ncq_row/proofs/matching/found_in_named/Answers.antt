use Rattle.std.proofs.Common.{◌≡◌, Bool, true, false, [], sym, ap, ◌∙◌, subst, if◌then◌else◌}
use Rattle.std.specs.Prelude.{not, IfOk}
use Rattle.std.specs.Str.{bytes_eq}
use Rattle.ncq_tree.specs.declared.model.Element.{Element}
use Rattle.ncq_row.specs.Embeddings.{Rows, rows_at}
use Rattle.ncq_row.specs.Subjects.{element_of}
use Rattle.ncq_row.proofs.CallerLemmas.{rows_of_other, rows_of_named}
use Rattle.ncq_row.proofs.matching.found_in_named.Goals as goal

is_true : (b : Bool) → not b ≡ false → b ≡ true
is_true true e = sym (sym (λ i. true))
is_true false e = cc

pub returns-then-ne : goal.returns-then-ne
returns-then-ne c =
    let other : not (bytes_eq (element_of c.args.subject).name c.args.name.now) ≡ true =
    sym (c.ne.ensures ∙ ap (λ (e : Element). not (bytes_eq e.name c.args.name.now)) c.element.ensures) ∙ c.if-ne.true in
    c.new.ensures ∙ sym (rows_of_other c.args.shape.now c.args.name.now (element_of c.args.subject) c.requires.named other)

pub returns : goal.returns
returns c =
    let is : bytes_eq (element_of c.args.subject).name c.args.name.now ≡ true =
    is_true _ (sym (c.ne.ensures ∙ ap (λ (e : Element). not (bytes_eq e.name c.args.name.now)) c.element.ensures) ∙ c.if-ne.false) in
    subst (λ (all : Rows). IfOk c.found_at.result (λ rows. rows ≡ all))
    ((λ i. if sym is i then rows_at c.args.shape.now (element_of c.args.subject) else [])
    ∙ sym (rows_of_named c.args.shape.now c.args.name.now (element_of c.args.subject) c.requires.named))
    c.found_at.ensures
