use Rattle.std.proofs.Common.{◌≡◌, ◌∷◌, [], List, Bool, true, false, map, arith, sym, ap, ◌∙◌, true≢false, if◌then◌else◌}
use Rattle.std.specs.Prelude.{◌&&◌}
use Rattle.std.specs.Str.{bytes_eq}
use Rattle.ncq_tree.specs.declared.model.Node.{Node}
use Rattle.ncq_row.specs.declared.shape.Shape.{Shape}
use Rattle.ncq_row.specs.declared.shape.ShapeContent.{ShapeContent}
use Rattle.ncq_row.specs.Embeddings.{one_of_each, attribute_rows, content_rows, rows_at, rows_among, rows_from}
use Rattle.ncq_row.specs.Found.{has_rows}
use Rattle.ncq_row.proofs.CallerLemmas.{rows_of_text, rows_of_named, rows_from_named, rows_of_parts}
use Rattle.ncq_row.proofs.LookLaws.{each_has, shape_has_rows}
use Rattle.ncq_row.proofs.lookahead.+looking.Goals as goal

split : (a b : Bool) → (a && b) ≡ true → (a ≡ true) × (b ≡ true)
split true b e = (sym e ∙ e, e)
split false b e = cc

pub are_found-loop-part-preserved : goal.are_found-loop-part-preserved
are_found-loop-part-preserved t c = λ e.
    (each_has (λ (p : Shape). rows_from p c.args.element.now) c.args.parts.now c.loop-part.part-index
    c.part-item.result (omega arith) c.part-item.is (c.loop-part.invariant e)).1

pub has_content-returns-in-Parts : goal.has_content-returns-in-Parts
has_content-returns-in-Parts t c = λ e.
    c.are_found.ensures (sym (ap has_rows (
    ap (λ (k : ShapeContent). content_rows k c.args.element.now) c.in-Parts.is
    ∙ rows_of_parts c.in-Parts.parts c.args.element.now
    ∙ ap (λ (ps : List Shape). one_of_each (map (λ (p : Shape). rows_from p c.args.element.now) ps)) (sym c.as_slice.ensures))) ∙ e)

pub is_embedded-returns-then-has_attributes : goal.is_embedded-returns-then-has_attributes
is_embedded-returns-then-has_attributes t c = λ e.
    c.has_content.ensures (split _ _ (sym (shape_has_rows c.args.shape.now c.args.element.now) ∙ e)).1

pub is_embedded-returns-else-has_attributes : goal.is_embedded-returns-else-has_attributes
is_embedded-returns-else-has_attributes t c = λ e.
    c.has_attributes.ensures
    ∙ (λ i. has_rows (one_of_each (map (attribute_rows (c.as_slice-2.ensures i)) (c.as_slice.ensures i))))
    ∙ (split _ _ (sym (shape_has_rows c.args.shape.now c.args.element.now) ∙ e)).0

pub is_found_at-returns-in-Text : goal.is_found_at-returns-in-Text
is_found_at-returns-in-Text t c = λ n e.
    sym (ap has_rows (ap (λ (node : Node). rows_among c.args.shape.now (node ∷ [])) c.in-Text.is
    ∙ rows_of_text c.args.shape.now c.in-Text.field-0)) ∙ e

pub is_found_at-returns-then-eq : goal.is_found_at-returns-then-eq
is_found_at-returns-then-eq t c = λ n e.
    let is : bytes_eq c.in-Element.element.name c.args.name.now ≡ true = sym c.eq.ensures ∙ c.if-eq.true in
    c.is_embedded.ensures (sym (ap has_rows (
    ap (λ (node : Node). rows_among c.args.shape.now (node ∷ [])) c.in-Element.is
    ∙ rows_of_named c.args.shape.now c.args.name.now c.in-Element.element n
    ∙ (λ i. if is i then rows_at c.args.shape.now c.in-Element.element else []))) ∙ e)

pub is_found_at-returns-else-eq : goal.is_found_at-returns-else-eq
is_found_at-returns-else-eq t c = λ n e.
    let is : bytes_eq c.in-Element.element.name c.args.name.now ≡ false = sym c.eq.ensures ∙ c.if-eq.false in
    absurd (true≢false (sym e ∙ ap has_rows (
    ap (λ (node : Node). rows_among c.args.shape.now (node ∷ [])) c.in-Element.is
    ∙ rows_of_named c.args.shape.now c.args.name.now c.in-Element.element n
    ∙ (λ i. if is i then rows_at c.args.shape.now c.in-Element.element else []))))

pub is_found_from-returns-in-Tag : goal.is_found_from-returns-in-Tag
is_found_from-returns-in-Tag t c = λ e.
    c.is_found.ensures c.in-Tag.is (ap has_rows (
    ap (rows_among c.args.part.now) c.as_slice.ensures
    ∙ sym (rows_from_named c.args.part.now c.in-Tag.name c.args.element.now c.in-Tag.is)) ∙ e)
