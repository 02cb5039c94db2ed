use Rattle.std.proofs.Common.{◌≡◌, Some, sym, ap, ◌∙◌, subst}
use Rattle.std.specs.Option.{option_map}
use Rattle.std.specs.FinMap.{get}
use Rattle.ncq_shelf.specs.Shown.{state_of}
use Rattle.ncq_shelf.proofs.Maps.{one_value, there}
use Rattle.ncq_shelf.proofs.ShownFiles.{get_shown}
use Rattle.ncq_shelf.proofs.Indexes.{shown_at}
use Rattle.ncq_shelf.proofs.shelf.Shelf.expr.Goals as goal

pub unreachable-requires : goal.unreachable-requires
unreachable-requires c =
    there (subst (λ f. get f c.args.number ≡ Some c.requires.file) (sym c.self.view_is) c.requires.at) (get_shown c.self.inside.groups.entries c.self.inside.files.entries c.args.number ∙ ap (option_map (state_of c.self.inside.groups.entries)) (sym c.in-None.ensures.value))

pub returns : goal.returns
returns c = λ file at.
    c.get-in-Some.ensures ∙ ap (λ s. s.expr) (one_value (shown_at c.self.inside.groups.entries c.self.inside.files.entries c.args.number c.in-Some.file.now (sym c.in-Some.ensures.value)) (subst (λ f. get f c.args.number ≡ Some file) (sym c.self.view_is) at))
