use Rattle.std.proofs.Common.{◌++◌, ℕ, List, [], ◌∷◌, take, sym, ap, ◌∙◌, subst, arith}
use Rattle.std.proofs.lemmas.List.{take_all, take_more}
use Rattle.ncq_shelf.specs.Bounds.{AreBounds}
use Rattle.ncq_shelf.proofs.FoldBounds.{bound_more}
use Rattle.ncq_shelf.proofs.shelf.Shelf.bounds_of.Goals as goal

pub loop-signed-preserved : goal.loop-signed-preserved
loop-signed-preserved c =
    let files = c.args.self.now in
    let input = c.args.group.input in
    let slot = c.args.group.slot in
    let rows = c.args.rows.now in
    let i = c.loop-signed.signed-index in
    let r = c.signed-item.result in
    subst (λ rs. AreBounds files input slot rs c.push.new.self.items) (ap (λ x. take i rows ++ x ∷ []) c.signed-item.is ∙ sym (take_more rows i r c.loop-signed-test.true))
    (subst (AreBounds files input slot (take i rows ++ r ∷ [])) (sym {A = List ℕ} c.in_ok-push.ensures.items)
    (bound_more files input slot (take i rows) c.loop-signed.bounds.items r _ c.loop-signed.invariant c.in_ok-bound_of.ensures))

pub returns : goal.returns
returns c =
    let files = c.args.self.now in
    let input = c.args.group.input in
    let slot = c.args.group.slot in
    let none = c.loop-signed-test.false in
    subst (AreBounds files input slot c.args.rows.now) (sym c.from_vec.ensures)
    (subst (λ rs. AreBounds files input slot rs c.loop-signed.bounds.items) (take_all c.loop-signed.signed-index c.args.rows.now (omega arith)) c.loop-signed.invariant)
