use Rattle.std.proofs.Common.{◌≡◌, ◌<◌, ◌-◌, Some, sym, ap, ◌∙◌, subst, arith}
use Rattle.std.specs.Option.{option_map}
use Rattle.std.specs.FinMap.{get}
use Rattle.std.proofs.lemmas.Result.{IfOk-weaker}
use Rattle.ncq_midfile.specs.Content.{since}
use Rattle.ncq_midfile.specs.Files.{FileState}
use Rattle.ncq_midfile.specs.Shown.{shown as view_shown, rows_below}
use Rattle.ncq_readers.specs.Passed.{parcels_in}
use Rattle.ncq_shelf.specs.KeptFiles.{KeptFile, Files}
use Rattle.ncq_shelf.specs.Contents.{AreFormed, sum_over}
use Rattle.ncq_shelf.specs.Readers.{ArePassedOn, AreBoundBy}
use Rattle.ncq_shelf.specs.Shown.{shown, state_of}
use Rattle.ncq_shelf.proofs.Maps.{one_value, there}
use Rattle.ncq_shelf.proofs.ShownFiles.{get_shown}
use Rattle.ncq_shelf.proofs.Indexes.{shown_at}
use Rattle.ncq_shelf.proofs.Consumers.{have_slots}
use Rattle.ncq_shelf.proofs.Parceled.{passed_on, passed_bound}
use Rattle.ncq_shelf.proofs.Widths.{wide_below}
use Rattle.ncq_shelf.proofs.shelf.Shelf.parcels.Goals as goal

pub unreachable-requires : goal.unreachable-requires
unreachable-requires g c =
    there (subst (λ f. get f c.args.input ≡ Some c.requires.there.file) (sym c.self.view_is) c.requires.there.at) (get_shown c.self.inside.groups.entries c.self.inside.files.entries c.args.input ∙ ap (option_map (state_of c.self.inside.groups.entries)) (sym c.in_default.ensures.value))

pub view_of-view-requires : goal.view_of-view-requires
view_of-view-requires g c = c.self.invariant.grouped.right c.args.input c.in-Some.file.now (sym c.in-Some.ensures.value)

pub parcels-requires-clause-base : goal.parcels-requires-clause-base
parcels-requires-clause-base g c =
    subst (λ (s : FileState). s.base < c.args.number) (sym c.view_of-view.ensures.shown)
    (c.requires.base (state_of c.self.inside.groups.entries c.in-Some.file.now) (subst (λ f. get f c.args.input ≡ Some (state_of c.self.inside.groups.entries c.in-Some.file.now)) c.self.view_is (shown_at c.self.inside.groups.entries c.self.inside.files.entries c.args.input c.in-Some.file.now (sym c.in-Some.ensures.value))))

pub parcels-requires-clause-slots : goal.parcels-requires-clause-slots
parcels-requires-clause-slots g c =
    let file = c.in-Some.file.now in
    let at = shown_at c.self.inside.groups.entries c.self.inside.files.entries c.args.input file (sym c.in-Some.ensures.value) in
    have_slots c.self.inside.groups.entries c.self.inside.files.entries c.self.inside.numbers.entries c.self.inside.scans.entries c.self.invariant.shelved c.args.input file (sym c.in-Some.ensures.value)
    (subst AreFormed (sym c.self.view_is) c.requires.formed) (rows_below c.view_of-view.result)
    (wide_below c.self.inside.groups.entries c.self.inside.files.entries c.self.inside.numbers.entries c.self.inside.scans.entries c.self.invariant.shelved c.self.invariant.grouped c.args.self.now c.self.view_is c.requires.wide c.args.input file (sym c.in-Some.ensures.value)
    (state_of c.self.inside.groups.entries file) (subst (λ f. get f c.args.input ≡ Some (state_of c.self.inside.groups.entries file)) c.self.view_is at) c.view_of-view.result c.view_of-view.ensures.shown c.view_of-view.ensures.own c.view_of-view.ensures.below)

pub returns-clause-parcels : goal.returns-clause-parcels
returns-clause-parcels g c = IfOk-weaker c.parcels.result _ _ (λ parcels e state at.
    let file = c.in-Some.file.now in
    let same : state_of c.self.inside.groups.entries file ≡ state =
    one_value (shown_at c.self.inside.groups.entries c.self.inside.files.entries c.args.input file (sym c.in-Some.ensures.value)) (subst (λ f. get f c.args.input ≡ Some state) (sym c.self.view_is) at) in
    let mine = since (c.args.number - 1) (view_shown c.view_of-view.result).rows in
    let rows : mine ≡ since (c.args.number - 1) state.content.rows = ap (λ (s : FileState). since (c.args.number - 1) s.rows) c.view_of-view.ensures.shown ∙ ap (λ (s : KeptFile). since (c.args.number - 1) s.content.rows) same in
    subst (λ ps. ArePassedOn c.args.self.now c.args.input (since (c.args.number - 1) state.content.rows) ps) (sym e)
    (subst (λ f. ArePassedOn f c.args.input (since (c.args.number - 1) state.content.rows) (parcels_in file.readers mine)) c.self.view_is
    (subst (λ rs. ArePassedOn (shown c.self.inside.groups.entries c.self.inside.files.entries) c.args.input rs (parcels_in file.readers mine)) rows
    (passed_on c.self.inside.groups.entries c.self.inside.files.entries c.self.inside.numbers.entries c.self.inside.scans.entries c.self.invariant.shelved c.args.input file (sym c.in-Some.ensures.value) c.parcels.ensures.tables mine)))) c.parcels.ensures.parcels

pub returns-clause-cost : goal.returns-clause-cost
returns-clause-cost g c = λ state bound at bounded.
    let file = c.in-Some.file.now in
    let same : state_of c.self.inside.groups.entries file ≡ state =
    one_value (shown_at c.self.inside.groups.entries c.self.inside.files.entries c.args.input file (sym c.in-Some.ensures.value)) (subst (λ f. get f c.args.input ≡ Some state) (sym c.self.view_is) at) in
    let mine = since (c.args.number - 1) (view_shown c.view_of-view.result).rows in
    let rows : mine ≡ since (c.args.number - 1) state.content.rows = ap (λ (s : FileState). since (c.args.number - 1) s.rows) c.view_of-view.ensures.shown ∙ ap (λ (s : KeptFile). since (c.args.number - 1) s.content.rows) same in
    let inside : AreBoundBy (shown c.self.inside.groups.entries c.self.inside.files.entries) c.args.input mine bound =
    subst (λ f. AreBoundBy f c.args.input mine bound) (sym c.self.view_is) (subst (λ rs. AreBoundBy c.args.self.now c.args.input rs bound) (sym rows) bounded) in
    let most = passed_bound c.self.inside.groups.entries c.self.inside.files.entries c.self.inside.numbers.entries c.self.inside.scans.entries c.self.invariant.shelved c.args.input file (sym c.in-Some.ensures.value) c.parcels.ensures.tables mine bound inside in
    let seen : sum_over (shown c.self.inside.groups.entries c.self.inside.files.entries) bound ≡ sum_over c.args.self.now bound = ap (λ (f : Files). sum_over f bound) c.self.view_is in
    let cost = c.parcels.ensures.cost in
    omega arith
