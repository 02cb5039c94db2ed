use Rattle.std.proofs.Common.{◌≡◌, ◌∷◌, [], ℕ, List, map, subst, Bor}
use Rattle.std.specs.Prelude.{IfOk}
use Rattle.ncq_path.specs.declared.path.Path.{Path}
use Rattle.ncq_path.specs.Deciding.{in_path}
use Rattle.ncq_tree.specs.declared.model.Element.{Element}
use Rattle.ncq_row.specs.Reached.{reached_behind}
use Rattle.ncq_row.proofs.reach.reached_by_arm.Goals as goal

pub returns-clause-itself : goal.returns-clause-itself
returns-clause-itself c =
    let after = c.step-state.ensures [] c.start.ensures in
    subst (λ (t : Path × List ℕ). IfOk c.reached_along.result (λ r. r.itself ≡ in_path t.0 (t.1 ∷ [])))
    (λ i. (c.in_ok-machine.ensures i, c.as_slice.ensures i))
    (c.reached_along.ensures.itself (c.as_slice.result.now ∷ []) after)

pub returns-clause-below : goal.returns-clause-below
returns-clause-below c =
    let after = c.step-state.ensures [] c.start.ensures in
    subst (λ (t : Path × List ℕ). IfOk c.reached_along.result (λ r.
    map (λ (e : Bor Element). e.now) r.below.items ≡ reached_behind t.0 (t.1 ∷ []) c.args.element.now.children))
    (λ i. (c.in_ok-machine.ensures i, c.as_slice.ensures i))
    (c.reached_along.ensures.below (c.as_slice.result.now ∷ []) after)
