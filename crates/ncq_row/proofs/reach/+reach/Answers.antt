use Rattle.std.proofs.Common.{◌≡◌, ◌++◌, ◌∷◌, [], List, map, sym, ap, ◌∙◌, append-nil, append_assoc, subst, if◌then◌else◌, Bor}
use Rattle.std.specs.Prelude.{OnOk}
use Rattle.ncq_path.specs.Deciding.{in_path}
use Rattle.ncq_tree.specs.declared.model.Element.{Element}
use Rattle.ncq_tree.specs.declared.model.Node.{Node}
use Rattle.ncq_row.specs.Reached.{reached_behind}
use Rattle.ncq_row.proofs.ReachLaws.{empty_reaches_none, reached_text, reached_element}
use Rattle.ncq_row.proofs.reach.+reach.Goals as goal

pub add_reached-returns-then-is_empty : goal.add_reached-returns-then-is_empty
add_reached-returns-then-is_empty t c = λ tags after.
    let old = map (λ (e : Bor Element). e.now) c.args.found.now.items in
    sym (append-nil old)
    ∙ (λ i. old ++ sym (empty_reaches_none c.args.machine.now tags c.args.state c.args.nodes.now
    (c.is_empty.ensures.0 c.if-is_empty.true) after) i)

pub add_reached_at-returns-in-Text : goal.add_reached_at-returns-in-Text
add_reached_at-returns-in-Text t c = λ tags after.
    let old = map (λ (e : Bor Element). e.now) c.args.found.now.items in
    sym (append-nil old)
    ∙ (λ i. old ++ sym (ap (λ (n : Node). reached_behind c.args.machine.now tags (n ∷ [])) c.in-Text.is
    ∙ reached_text c.args.machine.now tags c.in-Text.field-0) i)

pub add_reached_at-returns-in_ok-add_accepted-in-Element : goal.add_reached_at-returns-in_ok-add_accepted-in-Element
add_reached_at-returns-in_ok-add_accepted-in-Element t c = λ tags after.
    let m = c.args.machine.now in
    let e : Element = c.in-Element.element in
    let old = map (λ (e : Bor Element). e.now) c.args.found.now.items in
    let behind = c.step-next.ensures tags after in
    let below = tags ++ c.as_slice.result.now ∷ [] in
    let whole : map (λ (e : Bor Element). e.now) c.add_accepted.new.found.items ++ reached_behind m below c.as_slice-in-Element.result.now
    ≡ old ++ reached_behind m tags (c.args.node.now ∷ []) =
    (λ i. c.in_ok-add_accepted-in-Element.ensures below behind i ++ reached_behind m below c.as_slice-in-Element.result.now)
    ∙ append_assoc old (if in_path m below then e ∷ [] else []) (reached_behind m below c.as_slice-in-Element.result.now)
    ∙ (λ i. old ++ ((if in_path m (tags ++ c.as_slice.ensures i ∷ []) then e ∷ [] else []) ++ reached_behind m (tags ++ c.as_slice.ensures i ∷ []) (c.as_slice-in-Element.ensures i)))
    ∙ (λ i. old ++ sym (reached_element m tags e) i)
    ∙ (λ i. old ++ reached_behind m tags (sym c.in-Element.is i ∷ [])) in
    subst (λ (all : List Element). OnOk c.add_reached.result (map (λ (e : Bor Element). e.now) c.add_reached.new.found.items ≡ all))
    whole (c.add_reached.ensures below behind)
