use Rattle.std.proofs.Common.{◌≡◌, Some, sym, ap, ◌∙◌, subst}
use Rattle.std.specs.Option.{option_map}
use Rattle.std.specs.FinMap.{get}
use Rattle.ncq_shelf.specs.Shown.{state_of}
use Rattle.ncq_shelf.proofs.Maps.{one_value, there}
use Rattle.ncq_shelf.proofs.ShownFiles.{get_shown}
use Rattle.ncq_shelf.proofs.Indexes.{shown_at}
use Rattle.ncq_shelf.proofs.Widths.{wide_below}
use Rattle.ncq_shelf.proofs.shelf.Shelf.content.Goals as goal

pub unreachable-requires : goal.unreachable-requires
unreachable-requires c =
    there (subst (λ f. get f c.args.number ≡ Some c.requires.file) (sym c.self.view_is) c.requires.at) (get_shown c.self.inside.groups.entries c.self.inside.files.entries c.args.number ∙ ap (option_map (state_of c.self.inside.groups.entries)) (sym c.in-None.ensures.value))

pub view_of-requires : goal.view_of-requires
view_of-requires c = c.self.invariant.grouped.right c.args.number c.in-Some.file.now (sym c.in-Some.ensures.value)

pub returns-clause-content : goal.returns-clause-content
returns-clause-content c = λ file at.
    c.view_of.ensures.shown ∙ ap (λ s. s.content) (one_value (shown_at c.self.inside.groups.entries c.self.inside.files.entries c.args.number c.in-Some.file.now (sym c.in-Some.ensures.value)) (subst (λ f. get f c.args.number ≡ Some file) (sym c.self.view_is) at))

pub returns-clause-wide : goal.returns-clause-wide
returns-clause-wide c = λ file at wide.
    wide_below c.self.inside.groups.entries c.self.inside.files.entries c.self.inside.numbers.entries c.self.inside.scans.entries c.self.invariant.shelved c.self.invariant.grouped c.args.self.now c.self.view_is wide c.args.number c.in-Some.file.now (sym c.in-Some.ensures.value) file at
    c.view_of.result c.view_of.ensures.shown c.view_of.ensures.own c.view_of.ensures.below
