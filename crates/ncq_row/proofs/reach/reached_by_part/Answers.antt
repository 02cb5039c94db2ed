use Rattle.std.proofs.Common.{◌≡◌, [], map, subst, Bor}
use Rattle.std.specs.Prelude.{IfOk}
use Rattle.ncq_path.specs.declared.path.Path.{Path}
use Rattle.ncq_path.specs.Deciding.{in_path}
use Rattle.ncq_tree.specs.declared.model.Element.{Element}
use Rattle.ncq_row.specs.Reached.{reached_behind}
use Rattle.ncq_row.proofs.reach.reached_by_part.Goals as goal

pub returns-clause-itself : goal.returns-clause-itself
returns-clause-itself c =
    subst (λ (p : Path). IfOk c.reached_along.result (λ r. r.itself ≡ in_path p []))
    c.in_ok-machine.ensures (c.reached_along.ensures.itself [] c.start-state.ensures)

pub returns-clause-below : goal.returns-clause-below
returns-clause-below c =
    subst (λ (p : Path). IfOk c.reached_along.result (λ r.
    map (λ (e : Bor Element). e.now) r.below.items ≡ reached_behind p [] c.args.element.now.children))
    c.in_ok-machine.ensures (c.reached_along.ensures.below [] c.start-state.ensures)
