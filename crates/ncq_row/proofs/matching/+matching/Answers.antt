use Rattle.std.proofs.Common.{rules, ◌≡◌, ℕ, Bool, true, false, List, [], ◌∷◌, ◌++◌, map, Option, Some, append-nil, if◌then◌else◌}
use Rattle.std.proofs.Common.{arith, sym, ap, ◌∙◌, subst}
use Rattle.std.proofs.lemmas.Result.{IfOk-weaker}
use Rattle.std.specs.Prelude.{not, OnOk, IfOk}
use Rattle.std.specs.Str.{bytes_eq}
use Rattle.ncq_tree.specs.declared.model.Attribute.{Attribute}
use Rattle.ncq_tree.specs.declared.model.Element.{Element}
use Rattle.ncq_tree.specs.declared.model.Node.{Node}
use Rattle.ncq_row.specs.declared.shape.Shape.{Shape}
use Rattle.ncq_row.specs.declared.shape.ShapeContent.TheVariants.{Parts}
use Rattle.ncq_row.specs.declared.shape.ShapeContent.TheViews.{the_lemmas}
use Rattle.ncq_row.specs.Embeddings.{Row, Rows, paired, one_of_each, attribute_rows, suffix_rows}
use Rattle.ncq_row.specs.Embeddings.{content_rows, rows_at, rows_among, rows_from}
use Rattle.ncq_row.specs.Found.{option_rows}
use Rattle.ncq_row.specs.Subjects.{element_of}
use Rattle.ncq_row.proofs.CallerLemmas.{rows_of_shape, rows_of_text, rows_of_other, rows_of_named, rows_from_named}
use Rattle.ncq_row.proofs.FormedLaws.{tag_formed, content_formed, parts_formed_of}
use Rattle.ncq_row.proofs.PairedLaws.{next_part, no_part_left}
use Rattle.ncq_row.proofs.matching.+matching.Goals as goal

pub add_found-returns-then-ne : goal.add_found-returns-then-ne
add_found-returns-then-ne t c =
    let other : not (bytes_eq c.in-Element.element.name c.args.name.now)
    ≡ true = sym c.ne.ensures ∙ c.if-ne.true in
    let none =
    ap (λ (n : Node). rows_among c.args.shape.now (n ∷ [])) c.in-Element.is
    ∙ rows_of_other c.args.shape.now c.args.name.now c.in-Element.element c.requires.named other in
    sym (ap (λ (v : Rows). c.args.all.now ++ v) none ∙ append-nil c.args.all.now)

pub add_found-returns-in-Text : goal.add_found-returns-in-Text
add_found-returns-in-Text t c =
    let none =
    ap (λ (n : Node). rows_among c.args.shape.now (n ∷ [])) c.in-Text.is
    ∙ rows_of_text c.args.shape.now c.in-Text.field-0 in
    sym (ap (λ (v : Rows). c.args.all.now ++ v) none ∙ append-nil c.args.all.now)

is_true : (b : Bool) → not b ≡ false → b ≡ true
is_true true e = sym (sym (λ i. true))
is_true false e = cc

pub add_found-returns-in_ok-found_at-in-Element : goal.add_found-returns-in_ok-found_at-in-Element
add_found-returns-in_ok-found_at-in-Element t c =
    let s = c.args.shape.now in
    let e : Element = c.in-Element.element in
    let is : bytes_eq e.name c.args.name.now ≡ true =
    is_true (bytes_eq e.name c.args.name.now) (sym c.ne.ensures ∙ c.if-ne.false) in
    let all : c.in_ok-found_at-in-Element.field-0 ≡ rows_among s (c.args.node.now ∷ []) =
    c.in_ok-found_at-in-Element.ensures
    ∙ (λ i. if sym is i then rows_at s e else [])
    ∙ sym (rows_of_named s c.args.name.now e c.requires.named)
    ∙ (λ i. rows_among s (sym c.in-Element.is i ∷ [])) in
    subst (λ (found : Rows). OnOk c.append_found.result (c.append_found.new.all ≡ c.args.all.now ++ found)) all
    c.append_found.ensures.ok

pub found_at-found_in_content-requires : goal.found_at-found_in_content-requires
found_at-found_in_content-requires t c =
    (search (rules, the_lemmas), content_formed c.args.shape.now c.requires.formed)

pub found_in_content-found_in_parts-requires : goal.found_in_content-found_in_parts-requires
found_in_content-found_in_parts-requires t c =
    (search (rules, the_lemmas), parts_formed_of c.args.content.now c.as_slice.result.now (c.in-Parts.is ∙ ap Parts (sym c.as_slice.ensures)) c.requires)

pub found_from_reached-reached_by_part-requires : goal.found_from_reached-reached_by_part-requires
found_from_reached-reached_by_part-requires t c = tag_formed c.args.part.now c.requires

pub found_in_parts-loop-i-preserved : goal.found_in_parts-loop-i-preserved
found_in_parts-loop-i-preserved t c =
    next_part (λ (p : Shape). rows_from p c.args.element.now) c.args.parts.now c.loop-i.i
    c.index-parts-i.result
    _ _ _ _ (omega arith) c.index-parts-i.is c.in_ok-found.ensures c.in_ok-rows-2.ensures
    c.loop-i.invariant

pub found_in_parts-returns : goal.found_in_parts-returns
found_in_parts-returns t c =
    no_part_left (λ (p : Shape). rows_from p c.args.element.now) c.args.parts.now c.loop-i.i _ _
    (omega arith) c.loop-i.invariant

pub found_from-returns-in-Tag : goal.found_from-returns-in-Tag
found_from-returns-in-Tag t c =
    subst (λ (all : Rows). IfOk c.found_among.result (λ rows. rows ≡ all))
    (ap (rows_among c.args.part.now) c.as_slice.ensures
    ∙ sym (rows_from_named c.args.part.now c.in-Tag.name c.args.element.now c.in-Tag.is))
    c.found_among.ensures

-- what stands in front of the content, and the content, are those of the shape at the element
at_subject : (s : Shape) (d e : Element) (names : List (List ℕ)) (attributes : List Attribute)
    (found : Option Row) (front : Row) (content rows : Rows)
    → d ≡ e → names ≡ s.attributes → attributes ≡ d.attributes
    → option_rows found ≡ one_of_each (map (attribute_rows attributes) names) → found ≡ Some front
    → content ≡ content_rows s.content d
    → rows ≡ paired (front ∷ []) (paired content (suffix_rows s.suffix e)) → rows ≡ rows_at s e
at_subject s d e names attributes found front content rows same n a f is c r =
    let first : front ∷ [] ≡ one_of_each (map (attribute_rows e.attributes) s.attributes) =
    sym (ap option_rows is) ∙ f
    ∙ (λ i. one_of_each (map (attribute_rows (a i)) (n i)))
    ∙ ap (λ (x : Element). one_of_each (map (attribute_rows x.attributes) s.attributes)) same in
    let second : content ≡ content_rows s.content e = c ∙ ap (content_rows s.content) same in
    r ∙ (λ i. paired (first i) (paired (second i) (suffix_rows s.suffix e)))
    ∙ sym (rows_of_shape s e)

pub found_at-returns : goal.found_at-returns
found_at-returns t c =
    IfOk-weaker c.surrounded.result _ _
    (λ rows h. at_subject c.args.shape.now c.element-element.result.now (element_of c.args.subject)
    c.as_slice.result.now c.as_slice-2.result.now c.in_ok-front.field-0 c.in-Some.front
    c.in_ok-content.content rows c.element-element.ensures c.as_slice.ensures
    c.as_slice-2.ensures c.in_ok-front.ensures c.in-Some.is c.in_ok-content.ensures h)
    c.surrounded.ensures
