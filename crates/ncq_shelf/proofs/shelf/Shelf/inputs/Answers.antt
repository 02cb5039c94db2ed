use Rattle.std.proofs.Common.{◌≡◌, Some, sym, ap, ◌∙◌, subst}
use Rattle.std.specs.Option.{option_map}
use Rattle.std.specs.FinMap.{get}
use Rattle.ncq_shelf.specs.Inputs.{AreInputs}
use Rattle.ncq_shelf.specs.Shown.{shown, state_of}
use Rattle.ncq_shelf.proofs.Maps.{one_value, there}
use Rattle.ncq_shelf.proofs.ShownFiles.{get_shown}
use Rattle.ncq_shelf.proofs.Indexes.{shown_at}
use Rattle.ncq_shelf.proofs.shelf.Shelf.inputs.Goals as goal

pub unreachable-requires : goal.unreachable-requires
unreachable-requires c =
    there (subst (λ f. get f c.args.number ≡ Some c.requires.file) (sym c.self.view_is) c.requires.at) (get_shown c.self.inside.groups.entries c.self.inside.files.entries c.args.number ∙ ap (option_map (state_of c.self.inside.groups.entries)) (sym c.in-None.ensures.value))

pub returns : goal.returns
returns c = λ file at.
    let e : state_of c.self.inside.groups.entries c.in-Some.file.now ≡ file =
    one_value (shown_at c.self.inside.groups.entries c.self.inside.files.entries c.args.number c.in-Some.file.now (sym c.in-Some.ensures.value)) (subst (λ f. get f c.args.number ≡ Some file) (sym c.self.view_is) at) in
    subst (λ f. AreInputs f file.expr c.in-Some.file.now.inputs) c.self.view_is
    (subst (λ s. AreInputs (shown c.self.inside.groups.entries c.self.inside.files.entries) s.expr c.in-Some.file.now.inputs) e (c.self.invariant.shelved.indexed.inputs c.args.number c.in-Some.file.now (sym c.in-Some.ensures.value)))
