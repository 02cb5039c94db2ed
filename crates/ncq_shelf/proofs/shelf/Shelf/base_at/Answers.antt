use Rattle.std.proofs.Common.{◌≡◌, Some, sym, ap, ◌∙◌, subst}
use Rattle.std.specs.FinMap.{get}
use Rattle.std.specs.Option.{option_map}
use Rattle.ncq_shelf.specs.KeptFiles.{KeptFile}
use Rattle.ncq_shelf.specs.Shown.{state_of}
use Rattle.ncq_shelf.proofs.FoldBounds.{at_most}
use Rattle.ncq_shelf.proofs.Indexes.{shown_at}
use Rattle.ncq_shelf.proofs.Maps.{one_value, there}
use Rattle.ncq_shelf.proofs.ShownFiles.{get_shown}
use Rattle.ncq_shelf.proofs.shelf.Shelf.base_at.Goals as goal

pub returns-in-Some : goal.returns-in-Some
returns-in-Some c = λ state here.
    let gs = c.self.inside.groups.entries in
    let file = c.in-Some.file.now in
    let its : state_of gs file ≡ state = one_value (shown_at gs c.self.inside.files.entries c.args.number file (sym c.in-Some.ensures.value)) (subst (λ f. get f c.args.number ≡ Some state) (sym c.self.view_is) here) in
    at_most (c.base_of.ensures gs file.expr ∙ ap (λ (s : KeptFile). s.content.base) its)

pub returns-in-None : goal.returns-in-None
returns-in-None c = λ state here.
    let gs = c.self.inside.groups.entries in
    absurd (there (subst (λ f. get f c.args.number ≡ Some state) (sym c.self.view_is) here) (get_shown gs c.self.inside.files.entries c.args.number ∙ ap (option_map (state_of gs)) (sym c.in-None.ensures.value)))
