use Rattle.std.proofs.Common.{◌∙◌, ◌++◌, ◌∷◌, [], ℕ, List, subst, sym, ap, arith, length}
use Rattle.ncq_path.specs.declared.link.Link.{Link}
use Rattle.ncq_path.specs.declared.path.Path.{Path}
use Rattle.ncq_path.specs.After.{IsAfter}
use Rattle.ncq_path.specs.Links.{takes}
use Rattle.ncq_path.specs.Positions.{positions}
use Rattle.ncq_path.proofs.States.{step_after, few_kept}
use Rattle.ncq_path.proofs.state.step.Goals as goal

pub takers-requires : goal.takers-requires
takers-requires c =
    let f = few_kept c.machine.inside.path c.machine.inside.links c.machine.inside.last c.machine.invariant in
    let e = ap (length {A = Link}) c.as_slice.ensures in omega arith

pub returns : goal.returns
returns c = λ tags after.
    let bits = c.state.inside.bits in
    let before : IsAfter c.machine.inside.path tags (positions bits) =
    subst (λ (t : Path × List ℕ). IsAfter t.0 tags t.1) (λ i. (sym c.machine.view_is i, sym c.state.view_is i)) after in
    let later = step_after c.machine.inside.path c.machine.inside.links c.machine.inside.last bits c.takers.result
    c.args.tag.now c.machine.invariant c.state.invariant (omega arith)
    (λ q. c.takers.ensures q ∙ ap (λ (ls : List Link). takes ls 0 bits c.args.tag.now q) c.as_slice.ensures) tags before in
    subst (λ (p : Path). IsAfter p (tags ++ c.args.tag.now ∷ []) (positions c.takers.result)) c.machine.view_is later
