use Rattle.std.proofs.Common.{◌≡◌, ◌<◌, ◌≤◌, ◌+◌, ◌-◌, Some, sym, ap, ◌∙◌, subst}
use Rattle.std.specs.Option.{option_map}
use Rattle.std.specs.FinMap.{get}
use Rattle.std.proofs.lemmas.Result.{IfOk-weaker}
use Rattle.ncq_midfile.specs.Content.{since}
use Rattle.ncq_midfile.specs.Files.{FileState}
use Rattle.ncq_midfile.specs.Shown.{shown as view_shown, rows_below}
use Rattle.ncq_readers.specs.Passed.{held_in, size_of}
use Rattle.ncq_shelf.specs.KeptFiles.{KeptFile}
use Rattle.ncq_shelf.specs.Contents.{AreFormed}
use Rattle.ncq_shelf.specs.Ranges.{AreHeldOf}
use Rattle.ncq_shelf.specs.Shown.{shown, state_of}
use Rattle.ncq_shelf.proofs.Maps.{one_value, there}
use Rattle.ncq_shelf.proofs.ShownFiles.{get_shown}
use Rattle.ncq_shelf.proofs.Indexes.{shown_at}
use Rattle.ncq_shelf.proofs.Consumers.{have_slots}
use Rattle.ncq_shelf.proofs.TakenRows.{held_of}
use Rattle.ncq_shelf.proofs.Widths.{wide_below}
use Rattle.ncq_shelf.proofs.shelf.Shelf.held.Goals as goal

pub unreachable-requires : goal.unreachable-requires
unreachable-requires g c =
    there (subst (λ f. get f c.args.input ≡ Some c.requires.there.file) (sym c.self.view_is) c.requires.there.at) (get_shown c.self.inside.groups.entries c.self.inside.files.entries c.args.input ∙ ap (option_map (state_of c.self.inside.groups.entries)) (sym c.in_default.ensures.value))

pub view_of-view-requires : goal.view_of-view-requires
view_of-view-requires g c = c.self.invariant.grouped.right c.args.input c.in-Some.file.now (sym c.in-Some.ensures.value)

pub held-requires-clause-base : goal.held-requires-clause-base
held-requires-clause-base g c =
    subst (λ (s : FileState). s.base < c.args.number) (sym c.view_of-view.ensures.shown)
    (c.requires.base (state_of c.self.inside.groups.entries c.in-Some.file.now) (subst (λ f. get f c.args.input ≡ Some (state_of c.self.inside.groups.entries c.in-Some.file.now)) c.self.view_is (shown_at c.self.inside.groups.entries c.self.inside.files.entries c.args.input c.in-Some.file.now (sym c.in-Some.ensures.value))))

pub held-requires-clause-slots : goal.held-requires-clause-slots
held-requires-clause-slots g c =
    let file = c.in-Some.file.now in
    let at = shown_at c.self.inside.groups.entries c.self.inside.files.entries c.args.input file (sym c.in-Some.ensures.value) in
    have_slots c.self.inside.groups.entries c.self.inside.files.entries c.self.inside.numbers.entries c.self.inside.scans.entries c.self.invariant.shelved c.args.input file (sym c.in-Some.ensures.value)
    (subst AreFormed (sym c.self.view_is) c.requires.formed) (rows_below c.view_of-view.result)
    (wide_below c.self.inside.groups.entries c.self.inside.files.entries c.self.inside.numbers.entries c.self.inside.scans.entries c.self.invariant.shelved c.self.invariant.grouped c.args.self.now c.self.view_is c.requires.wide c.args.input file (sym c.in-Some.ensures.value)
    (state_of c.self.inside.groups.entries file) (subst (λ f. get f c.args.input ≡ Some (state_of c.self.inside.groups.entries file)) c.self.view_is at) c.view_of-view.result c.view_of-view.ensures.shown c.view_of-view.ensures.own c.view_of-view.ensures.below)

pub returns-clause-held : goal.returns-clause-held
returns-clause-held g c = IfOk-weaker c.held.result _ _ (λ held e state at.
    let file = c.in-Some.file.now in
    let same : state_of c.self.inside.groups.entries file ≡ state =
    one_value (shown_at c.self.inside.groups.entries c.self.inside.files.entries c.args.input file (sym c.in-Some.ensures.value)) (subst (λ f. get f c.args.input ≡ Some state) (sym c.self.view_is) at) in
    let mine = since (c.args.number - 1) (view_shown c.view_of-view.result).rows in
    let rows : mine ≡ since (c.args.number - 1) state.content.rows = ap (λ (s : FileState). since (c.args.number - 1) s.rows) c.view_of-view.ensures.shown ∙ ap (λ (s : KeptFile). since (c.args.number - 1) s.content.rows) same in
    subst (λ hs. AreHeldOf c.args.self.now c.args.input (since (c.args.number - 1) state.content.rows) hs) (sym e)
    (subst (λ f. AreHeldOf f c.args.input (since (c.args.number - 1) state.content.rows) (held_in file.readers mine)) c.self.view_is
    (subst (λ rs. AreHeldOf (shown c.self.inside.groups.entries c.self.inside.files.entries) c.args.input rs (held_in file.readers mine)) rows
    (held_of c.self.inside.groups.entries c.self.inside.files.entries c.self.inside.numbers.entries c.self.inside.scans.entries c.self.invariant.shelved c.args.input file (sym c.in-Some.ensures.value) c.held.ensures.tables mine)))) c.held.ensures.held

pub returns-clause-cost : goal.returns-clause-cost
returns-clause-cost g c = λ state at.
    let file = c.in-Some.file.now in
    let same : state_of c.self.inside.groups.entries file ≡ state =
    one_value (shown_at c.self.inside.groups.entries c.self.inside.files.entries c.args.input file (sym c.in-Some.ensures.value)) (subst (λ f. get f c.args.input ≡ Some state) (sym c.self.view_is) at) in
    let mine = since (c.args.number - 1) (view_shown c.view_of-view.result).rows in
    let rows : mine ≡ since (c.args.number - 1) state.content.rows = ap (λ (s : FileState). since (c.args.number - 1) s.rows) c.view_of-view.ensures.shown ∙ ap (λ (s : KeptFile). since (c.args.number - 1) s.content.rows) same in
    let held = held_in file.readers mine in (
      held,
      subst (λ f. AreHeldOf f c.args.input (since (c.args.number - 1) state.content.rows) held) c.self.view_is
          (subst (λ rs. AreHeldOf (shown c.self.inside.groups.entries c.self.inside.files.entries) c.args.input rs held) rows
          (held_of c.self.inside.groups.entries c.self.inside.files.entries c.self.inside.numbers.entries c.self.inside.scans.entries c.self.invariant.shelved c.args.input file (sym c.in-Some.ensures.value) c.held.ensures.tables mine)),
      c.held.ensures.cost,
    )

pub returns-clause-spent : goal.returns-clause-spent
returns-clause-spent g c = IfOk-weaker c.held.result _ _ (λ held e. subst (λ hs. c.held.new.steps ≤ c.args.steps.now + size_of hs) (sym e) c.held.ensures.cost) c.held.ensures.held
