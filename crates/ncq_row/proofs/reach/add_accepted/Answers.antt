use Rattle.std.proofs.Common.{◌++◌, ◌∷◌, [], map, sym, ap, ◌∙◌, append-nil, if◌then◌else◌, Bor}
use Rattle.std.proofs.lemmas.List.{map-append}
use Rattle.ncq_tree.specs.declared.model.Element.{Element}
use Rattle.ncq_row.proofs.ReachLaws.{accepted_is}
use Rattle.ncq_row.proofs.reach.add_accepted.Goals as goal

pub returns-in_ok-push : goal.returns-in_ok-push
returns-in_ok-push c = λ tags after.
    let is = sym c.if-accepts.true ∙ accepted_is c.args.machine.now tags c.accepts.result (c.accepts.ensures tags after) in
    ap (map (λ (e : Bor Element). e.now)) c.in_ok-push.ensures.items
    ∙ map-append (λ (e : Bor Element). e.now) c.args.found.now.items (c.args.element ∷ [])
    ∙ (λ i. map (λ (e : Bor Element). e.now) c.args.found.now.items ++ (if is i then c.args.element.now ∷ [] else []))

pub returns-else-accepts : goal.returns-else-accepts
returns-else-accepts c = λ tags after.
    let is = sym c.if-accepts.false ∙ accepted_is c.args.machine.now tags c.accepts.result (c.accepts.ensures tags after) in
    sym (append-nil (map (λ (e : Bor Element). e.now) c.args.found.now.items))
    ∙ (λ i. map (λ (e : Bor Element). e.now) c.args.found.now.items ++ (if is i then c.args.element.now ∷ [] else []))
