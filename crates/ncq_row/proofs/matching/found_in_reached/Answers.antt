use Rattle.std.proofs.Common.{◌≡◌, ◌++◌, ◌∷◌, [], sym, ap, ◌∙◌, subst, if◌then◌else◌}
use Rattle.std.specs.Prelude.{IfOk}
use Rattle.std.specs.List.{flat_map}
use Rattle.ncq_path.specs.Deciding.{in_path}
use Rattle.ncq_tree.specs.declared.model.Element.{Element}
use Rattle.ncq_row.specs.Embeddings.{Rows, rows_at}
use Rattle.ncq_row.specs.Reached.{reached_behind}
use Rattle.ncq_row.specs.Subjects.{element_of}
use Rattle.ncq_row.proofs.CallerLemmas.{rows_of_element}
use Rattle.ncq_row.proofs.FormedLaws.{tag_formed}
use Rattle.ncq_row.proofs.matching.found_in_reached.Goals as goal

pub reached_by_arm-requires : goal.reached_by_arm-requires
reached_by_arm-requires c = tag_formed c.args.shape.now c.requires.formed

pub returns : goal.returns
returns c =
    let s = c.args.shape.now in
    let e : Element = element_of c.args.subject in
    subst (λ (all : Rows). IfOk c.found_at_reached.result (λ rows. rows ≡ all))
    ((λ i. flat_map (rows_at s) ((if c.in_ok-reached.ensures.itself i then e ∷ [] else []) ++ c.in_ok-reached.ensures.below i))
    ∙ ap (λ (d : Element). flat_map (rows_at s) ((if in_path s.tag (d.name ∷ []) then e ∷ [] else []) ++ reached_behind s.tag (d.name ∷ []) d.children)) c.element.ensures
    ∙ sym (rows_of_element s e))
    c.found_at_reached.ensures
